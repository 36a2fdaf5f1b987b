-- Tests of numbers, and tests that agree.
use Rattle.std.proofs.Common.{ℕ, Bool, true, false, ◌≡◌, refl, sym, arith}
use Rattle.std.specs.Prelude.{◌==◌}

pub same_number : (x d : ℕ) → (x == d) ≡ true → x ≡ d
same_number x d h = grind (arith, h)

pub number_same : (x d : ℕ) → x ≡ d → (x == d) ≡ true
number_same x d h = grind (arith, h)

pub equal_tests : (b c : Bool) → (b ≡ true → c ≡ true) → (c ≡ true → b ≡ true) → b ≡ c
equal_tests true true f g = refl
equal_tests true false f g = sym (f refl)
equal_tests false true f g = g refl
equal_tests false false f g = refl
