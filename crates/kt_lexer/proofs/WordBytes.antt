-- Letters, digits and `_` are ASCII.
use Rattle.std.proofs.Common.{◌≡◌, ℕ, zero, suc, ◌<◌, true, List, [], ◌∷◌, ⊎_elim, arith}
use Rattle.std.specs.Str.{IsAscii}
use Rattle.std.proofs.lemmas.Bool.{eqb-true, leb-true}
use Rattle.kt_lexer.specs.Lexemes.{AllPass, between, is_word}
use Rattle.kt_lexer.proofs.Cases.{either, both}

below : (low high c : ℕ) → between low high c ≡ true → high < 128 → c < 128
below low high c is small = omega (arith, leb-true c high (both _ _ is).1, small)

pub word_small : (c : ℕ) → is_word c ≡ true → c < 128
word_small c is = ⊎_elim
    (λ letter. ⊎_elim
    (λ ordinary. ⊎_elim (λ upper. below 65 90 c upper (omega arith)) (λ lower. below 97 122 c lower (omega arith)) (either _ _ ordinary))
    (λ line. omega (arith, eqb-true c 95 line)) (either _ _ letter))
    (λ digit. below 48 57 c digit (omega arith)) (either _ _ is)

pub word_ascii : (u : List ℕ) → AllPass is_word u → IsAscii u
word_ascii [] pass i = omega arith
word_ascii (c ∷ u) pass zero = word_small c pass.0
word_ascii (c ∷ u) pass (suc i) = word_ascii u pass.1 i
