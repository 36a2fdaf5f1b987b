-- Levels that are counted in 32 bits, beside levels of which fewer are left.
use Rattle.std.proofs.Common.{◌≡◌, ℕ, suc, ◌+◌, ◌<◌, ◌^◌, nat_le, nat_lt, arith}
use Rattle.std.proofs.lemmas.Bool.Decides.{nat_tests}
use Rattle.kt_tree.specs.Levels.{counted}

-- what fits into the levels that are left fits as far as it is counted
pub fits : (n l m : ℕ) → n + 2 < 2 ^ 32 → m ≡ counted l → nat_le m n ≡ nat_lt l (suc n)
fits n l m small e = grind (arith, nat_tests)
