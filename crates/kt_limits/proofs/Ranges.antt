-- Ranges of a list whose ends are counted as far as 64 bits go.
use Rattle.std.proofs.Common.{◌≡◌, ◌≤◌, ◌<◌, ◌-◌, ℕ, List, [], length, take, drop, map, min, refl, ap, ap₂, sym, ◌∙◌, arith, inl, inr, ◌⊎◌}
use Rattle.std.specs.List.{slice_range}
use Rattle.std.proofs.lemmas.Bool.{cases_order}
use Rattle.std.proofs.lemmas.List.{drop_all, take_all, take_min, take-map, drop-map, length-drop}
use Rattle.kt_sizes.specs.Capped.{cap}

-- a range that goes past the end
past_end : {X : Type 0} (xs : List X) (m n : ℕ) → length xs ≤ n → take (length xs - m) (drop m xs) ≡ take (n - m) (drop m xs)
past_end xs m n le =
    let left = length-drop m xs in
    take_all (length xs - m) (drop m xs) (omega (arith, left)) ∙ sym (take_all (n - m) (drop m xs) (omega (arith, left, le)))

range_to : {X : Type 0} (xs : List X) (m n : ℕ) → take (min n (length xs) - m) (drop m xs) ≡ take (n - m) (drop m xs)
range_to xs m n = by_order (cases_order n (length xs))
  where
    by_order : (n ≡ length xs) ⊎ (n < length xs) ⊎ (length xs < n) → take (min n (length xs) - m) (drop m xs) ≡ take (n - m) (drop m xs)
    by_order (inl same) = let e : min n (length xs) ≡ n = omega arith in ap (λ k. take (k - m) (drop m xs)) e
    by_order (inr (inl less)) = let e : min n (length xs) ≡ n = omega arith in ap (λ k. take (k - m) (drop m xs)) e
    by_order (inr (inr more)) =
        let e : min n (length xs) ≡ length xs = omega arith in
        ap (λ k. take (k - m) (drop m xs)) e ∙ past_end xs m n (omega arith)

-- a range that begins behind its end
range_from : {X : Type 0} (xs : List X) (m b : ℕ) → take (b - min m b) (drop (min m b) xs) ≡ take (b - m) (drop m xs)
range_from xs m b = by_order (cases_order m b)
  where
    by_order : (m ≡ b) ⊎ (m < b) ⊎ (b < m) → take (b - min m b) (drop (min m b) xs) ≡ take (b - m) (drop m xs)
    by_order (inl same) = let e : min m b ≡ m = omega arith in ap (λ k. take (b - k) (drop k xs)) e
    by_order (inr (inl less)) = let e : min m b ≡ m = omega arith in ap (λ k. take (b - k) (drop k xs)) e
    by_order (inr (inr more)) =
        let e : min m b ≡ b = omega arith in
        let none : b - b ≡ 0 = omega arith in
        let also : b - m ≡ 0 = omega arith in
        ap (λ k. take (b - k) (drop k xs)) e ∙ (ap (λ k. take k (drop b xs)) none ∙ sym (ap (λ k. take k (drop m xs)) also))

pub same_range : {X Y : Type 0} (f : X → Y) (xs : List X) (m n from to a b : ℕ) → length xs ≤ 18446744073709551615
    → from ≡ cap m → to ≡ cap n → b ≡ min to (length xs) → a ≡ min from b
    → map f (slice_range xs a b) ≡ slice_range (map f xs) m n
same_range f xs m n from to a b few is_from is_to is_b is_a =
    let end : b ≡ min n (length xs) = omega (arith, few, is_to, is_b) in
    let begin : a ≡ min m b = omega (arith, few, is_from, is_b, is_a) in
    let whole : slice_range xs a b ≡ slice_range xs m n =
    ap (λ k. take (b - k) (drop k xs)) begin ∙ (range_from xs m b ∙ (ap (λ k. take (k - m) (drop m xs)) end ∙ range_to xs m n)) in
    ap (map f) whole ∙ (sym (take-map f (n - m) (drop m xs)) ∙ ap (take (n - m)) (sym (drop-map f m xs)))
