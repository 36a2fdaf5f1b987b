-- The number that digits stand for.
use Rattle.std.proofs.Common.{◌≡◌, false, ℕ, ◌+◌, ◌-◌, ◌*◌, ◌≤◌, ◌^◌, List, [], ◌∷◌, length, get_or, None, refl, arith}
use Rattle.std.specs.Prelude.{nat_lt}
use Rattle.std.proofs.lemmas.Bool.{le-ltb}
use Rattle.kt_lexer.specs.Lexemes.{number_after, value_of}

grows : (n : ℕ) (digits : List ℕ) → n ≤ number_after n digits
grows n [] = omega arith
grows n (digit ∷ digits) = omega (arith, grows (10 * n + (digit - 48)) digits)

-- digits whose front is too large are too large
pub too_large : (value digit : ℕ) (rest digits : List ℕ) → digit ≡ get_or rest 0 digit → 1 ≤ length rest → number_after value rest ≡ number_after 0 digits
    → 2 ^ 63 ≤ 10 * value + (digit - 48) → value_of digits ≡ None
too_large value digit [] digits is some same h = absurd (omega arith)
too_large value digit (d ∷ rest) digits is some same h =
    let no : nat_lt (number_after 0 digits) (2 ^ 63) ≡ false = le-ltb _ _ (omega (arith, is, same, grows (10 * value + (d - 48)) rest)) in
    rw no refl
