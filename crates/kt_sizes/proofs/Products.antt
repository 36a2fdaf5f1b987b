-- Products and weights, as far as they count.
use Rattle.std.proofs.Common.{◌≡◌, ◌≤◌, ◌<◌, ◌+◌, ◌*◌, ◌-◌, ℕ, zero, suc, Bool, true, false, nat_le, refl, ap, ap₂, sym, ◌∙◌, arith}
use Rattle.std.proofs.lemmas.Bool.Decides.{nat_tests}
use Rattle.std.proofs.Math.Nat.{le-mul_of_pos_right, zero-mul, mul-zero, mul_comm}
use Rattle.kt_sizes.specs.declared.sizes.Sizes.{Sizes}
use Rattle.kt_sizes.specs.Capped.{cap, capped}
use Rattle.kt_sizes.specs.Weight.{weight_of}

-- a factor that passes the bound, and one that isn't zero
passes : (a b : ℕ) → 18446744073709551615 ≤ a → 0 < b → cap (cap a * cap b) ≡ cap (a * b)
passes a b much some =
    let is : cap a ≡ 18446744073709551615 = omega (arith, much) in
    let left : cap a ≤ cap a * cap b = le-mul_of_pos_right (cap a) (omega (arith, some)) in
    let right : a ≤ a * b = le-mul_of_pos_right a some in
    omega (arith, is, left, right, much)

fits : (a b : ℕ) → a ≤ 18446744073709551615 → b ≤ 18446744073709551615 → cap (cap a * cap b) ≡ cap (a * b)
fits a b few less =
    let left : cap a ≡ a = omega (arith, few) in
    let right : cap b ≡ b = omega (arith, less) in
    ap₂ (λ m n. cap (m * n)) left right

by_tests : (a b : ℕ) (t u : Bool) → nat_le a 18446744073709551615 ≡ t → nat_le b 18446744073709551615 ≡ u
    → 0 < a → 0 < b → cap (cap a * cap b) ≡ cap (a * b)
by_tests a b true true h k p q = fits a b (grind (arith, nat_tests, h)) (grind (arith, nat_tests, k))
by_tests a b false u h k p q = passes a b (grind (arith, nat_tests, h)) q
by_tests a b true false h k p q =
    ap cap (mul_comm (cap a) (cap b)) ∙ (passes b a (grind (arith, nat_tests, k)) p ∙ ap cap (mul_comm b a))

pub product_cap : (a b : ℕ) → cap (cap a * cap b) ≡ cap (a * b)
product_cap zero b = ap cap (zero-mul (cap b)) ∙ sym (ap cap (zero-mul b))
product_cap (suc a) zero = ap cap (mul-zero (cap (suc a))) ∙ sym (ap cap (mul-zero (suc a)))
product_cap (suc a) (suc b) =
    by_tests (suc a) (suc b) (nat_le (suc a) 18446744073709551615) (nat_le (suc b) 18446744073709551615) refl refl
    (omega arith) (omega arith)

-- a sum of counts
sum_cap : (m n : ℕ) → cap (cap m + cap n) ≡ cap (m + n)
sum_cap m n = omega arith

variables_cap : (locals kept depth : ℕ)
    → cap (cap (cap (locals + cap kept) + (cap depth - 1)) + 8) ≡ cap (locals + kept + (depth - 1) + 8)
variables_cap locals kept depth = omega arith

nodes_cap : (nodes parameters : ℕ) → cap (cap (cap nodes + parameters) * 48) ≡ cap (48 * (nodes + parameters))
nodes_cap nodes parameters = omega arith

heavy_cap : (heavy : ℕ) → cap (cap heavy * 240) ≡ cap (240 * heavy)
heavy_cap heavy = omega arith

captured_cap : (captured captures : ℕ) → cap (cap (cap captured + captures) * 8) ≡ cap (8 * (captured + captures))
captured_cap captured captures = omega arith

-- what the code calculates of capped counts
abbrev pub calculated : Sizes → ℕ → ℕ → ℕ → ℕ
calculated s captures parameters locals =
    cap (cap (cap (cap
    (cap (cap (s.nodes + parameters) * 48)
    + cap (s.heavy * 240))
    + cap (cap (s.captured + captures) * 8))
    + cap (cap (s.points * 24) * cap (cap (cap (locals + s.kept) + (s.depth - 1)) + 8)))
    + 256)

points_cap : (points variables more : ℕ) → cap variables ≡ cap more
    → cap (cap (cap points * 24) * cap variables) ≡ cap (24 * points * more)
points_cap points variables more same =
    let twenty : cap (cap points * 24) ≡ cap (24 * points) = omega arith in
    ap₂ (λ m n. cap (m * n)) twenty same ∙ product_cap (24 * points) more

five : (a b c d : ℕ) → cap (cap (cap (cap (cap a + cap b) + cap c) + cap d) + 256) ≡ cap (a + b + c + d + 256)
five a b c d = omega arith

pub weight_cap : (s : Sizes) (captures parameters locals : ℕ)
    → calculated (capped s) captures parameters locals ≡ cap (weight_of s captures parameters locals)
unfolding capped
weight_cap s captures parameters locals =
    rw (
      nodes_cap s.nodes parameters,
      heavy_cap s.heavy,
      captured_cap s.captured captures,
      points_cap s.points (cap (cap (locals + cap s.kept) + (cap s.depth - 1)) + 8)
          (locals + s.kept + (s.depth - 1) + 8) (variables_cap locals s.kept s.depth),
    )
    (five (48 * (s.nodes + parameters)) (240 * s.heavy) (8 * (s.captured + captures))
    (24 * s.points * (locals + s.kept + (s.depth - 1) + 8)))

pub weight_from : (s t : Sizes) (captures parameters locals : ℕ) → t ≡ capped s
    → calculated t captures parameters locals ≡ cap (weight_of s captures parameters locals)
weight_from s t captures parameters locals is =
    ap (λ r. calculated r captures parameters locals) is ∙ weight_cap s captures parameters locals
