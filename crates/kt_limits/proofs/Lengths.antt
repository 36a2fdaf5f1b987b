-- Sums over a list, as far as 64 bits go.
use Rattle.std.proofs.Common.{◌≡◌, ◌<◌, ◌≤◌, ℕ, ◌+◌, List, [], ◌∷◌, ◌++◌, length, length-append, get_or, drop, min, nat_le, refl, ap, sym, ◌∙◌, arith}
use Rattle.std.proofs.lemmas.Bool.Decides.{nat_tests}
use Rattle.std.proofs.lemmas.List.{drop_more, drop_all}
use Rattle.std.proofs.lemmas.Grind.{flat_map-append}
use Rattle.std.specs.List.{flat_map}
use Rattle.jvm_pool.specs.Modified.{unit_bytes, modified}
use Rattle.kt_tree.specs.declared.bodies.TextPart.{TextPart}
use Rattle.kt_sizes.specs.Capped.{cap}
use Rattle.kt_limits.specs.Noted.{units_of}

pub fits_cap : (w n : ℕ) → w ≡ cap n → nat_le w 65535 ≡ nat_le n 65535
fits_cap w n is = grind (arith, nat_tests)

pub cap_twice : (u n : ℕ) → u ≡ cap n → cap u ≡ cap n
cap_twice u n is = omega (arith, is)

pub sum_begins : (n : ℕ) → cap (0 + n) ≡ cap n
sum_begins n = omega arith

pub sum_on : {A : Type 0} (f : List A → ℕ) (g : A → ℕ) → ((x : A) (xs : List A) → f (x ∷ xs) ≡ g x + f xs)
    → (xs : List A) (i : ℕ) (x : A) → i < length xs → x ≡ get_or xs i x → (l u n whole : ℕ)
    → cap (l + f (drop i xs)) ≡ cap whole → cap u ≡ cap (g x) → n ≡ min (l + u) 18446744073709551615 → cap (n + f (drop (i + 1) xs)) ≡ cap whole
sum_on f g one xs i x less is l u n whole known more sum =
    let first : drop i xs ≡ x ∷ drop (i + 1) xs = drop_more xs i x less ∙ ap (λ y. y ∷ drop (i + 1) xs) (sym is) in
    let split : f (drop i xs) ≡ g x + f (drop (i + 1) xs) = ap f first ∙ one x (drop (i + 1) xs) in
    omega (arith, split, known, more, sum)

pub sum_ends : {A : Type 0} (f : List A → ℕ) → f [] ≡ 0 → (xs : List A) (i : ℕ) → length xs ≤ i → (l whole : ℕ) → l ≤ 18446744073709551615
    → cap (l + f (drop i xs)) ≡ cap whole → l ≡ cap whole
sum_ends f none xs i le l whole few known =
    let nothing : f (drop i xs) ≡ 0 = ap f (drop_all i xs le) ∙ none in
    omega (arith, nothing, known, few)

pub unit_more : (u : ℕ) (us : List ℕ) → length (modified (u ∷ us)) ≡ length (unit_bytes u) + length (modified us)
unit_more u us = length-append (unit_bytes u) (modified us)

pub part_more : (p : TextPart) (ps : List TextPart)
    → length (modified (flat_map units_of (p ∷ ps))) ≡ length (modified (units_of p)) + length (modified (flat_map units_of ps))
part_more p ps =
    ap length (flat_map-append unit_bytes (units_of p) (flat_map units_of ps)) ∙ length-append (modified (units_of p)) (modified (flat_map units_of ps))
