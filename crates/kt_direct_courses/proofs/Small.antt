-- Literal names are ASCII.
use Rattle.std.proofs.Common.{ℕ, suc, zero, Bool, true, false, ◌≡◌, ◌<◌, refl, List, [], ◌∷◌, arith}
use Rattle.std.specs.Prelude.{nat_lt, ◌&&◌}
use Rattle.std.specs.List.{list_all}
use Rattle.std.specs.Str.{IsAscii}

first_true : (b c : Bool) → (b && c) ≡ true → b ≡ true
first_true true c h = refl
first_true false c h = cc

second_true : (b c : Bool) → (b && c) ≡ true → c ≡ true
second_true true c h = h
second_true false c h = cc

small : (b : ℕ) → nat_lt b 128 ≡ true → b < 128
small b h = grind (arith, h)

pub each_small : (bs : List ℕ) → list_all (λ b. nat_lt b 128) bs ≡ true → IsAscii bs
each_small [] h i = omega arith
each_small (b ∷ bs) h zero = small b (first_true (nat_lt b 128) (list_all (λ c. nat_lt c 128) bs) h)
each_small (b ∷ bs) h (suc i) = each_small bs (second_true (nat_lt b 128) (list_all (λ c. nat_lt c 128) bs) h) i
