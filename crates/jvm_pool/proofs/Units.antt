-- A unit that is read is spelled so, and a unit that is spelled is read.
use Rattle.std.proofs.Common.{◌≡◌, ℕ, ◌^◌, ◌<◌, ◌≤◌, List, [], ◌∷◌, ◌++◌, Some, arith}
use Rattle.std.proofs.lemmas.Bool.Decides.{nat_tests}
use Rattle.jvm_pool.specs.Modified.{unit_bytes}
use Rattle.jvm_pool.specs.ModifiedReading.{two_byte_unit, three_byte_unit, first_unit}

pub first_unit_again : (u : ℕ) (rest : List ℕ) → u < 2 ^ 16 → first_unit (unit_bytes u ++ rest) ≡ Some (u, rest)
first_unit_again u rest lt = grind (arith, nat_tests)

two_takes : (a : ℕ) (bytes : List ℕ) (u : ℕ) (rest : List ℕ) → 0xc0 ≤ a → a < 0xe0 → two_byte_unit a bytes ≡ Some (u, rest) → (a ∷ bytes ≡ unit_bytes u ++ rest) × (u < 2 ^ 16)
two_takes a [] u rest lo hi e = absurd cc
two_takes a (b ∷ bytes) u rest lo hi e = grind (arith, nat_tests)

three_takes : (a : ℕ) (bytes : List ℕ) (u : ℕ) (rest : List ℕ) → 0xe0 ≤ a → a < 0xf0 → three_byte_unit a bytes ≡ Some (u, rest) → (a ∷ bytes ≡ unit_bytes u ++ rest) × (u < 2 ^ 16)
three_takes a [] u rest lo hi e = absurd cc
three_takes a (b ∷ []) u rest lo hi e = absurd cc
three_takes a (b ∷ c ∷ bytes) u rest lo hi e = grind (arith, nat_tests)

pub first_unit_takes : (bytes : List ℕ) (u : ℕ) (rest : List ℕ) → first_unit bytes ≡ Some (u, rest) → (bytes ≡ unit_bytes u ++ rest) × (u < 2 ^ 16)
first_unit_takes [] u rest e = absurd cc
first_unit_takes (a ∷ bytes) u rest e = grind (arith, nat_tests, two_takes a bytes u rest, three_takes a bytes u rest)
