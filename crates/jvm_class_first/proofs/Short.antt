-- Short texts fit.
use Rattle.std.proofs.Common.{ℕ, ◌*◌, ◌^◌, ◌<◌, ◌≤◌, List, [], ◌∷◌, length, arith}
use Rattle.std.proofs.lemmas.List.{length-append}
use Rattle.std.proofs.lemmas.Bool.Decides.{nat_tests}
use Rattle.jvm_pool.specs.Modified.{modified, unit_bytes}

unit_short : (u : ℕ) → length (unit_bytes u) ≤ 3
unit_short u = grind (arith, nat_tests)

modified_short : (text : List ℕ) → length (modified text) ≤ 3 * length text
modified_short [] = omega arith
modified_short (u ∷ text) = omega (arith, length-append (unit_bytes u) (modified text), unit_short u, modified_short text)

pub text_is_short : (text : List ℕ) → length text ≤ 255 → length (modified text) < 2 ^ 16
text_is_short text short = omega (arith, modified_short text)
