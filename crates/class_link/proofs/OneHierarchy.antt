-- Classes have one hierarchy.
use Rattle.std.proofs.Common.{◌≡◌, ℕ, true, zero, suc, ◌≤◌, ◌⊎◌, inl, inr, refl, sym, ap, subst, ◌∙◌, List, [], ◌∷◌, Option}
use Rattle.std.proofs.Common.{None, Some, length, arith}
use Rattle.std.specs.Prelude.{slice_get, ◌==◌, map}
use Rattle.std.specs.List.{list_any}
use Rattle.class_headers.specs.declared.headers.Header.{Header}
use Rattle.class_supers.specs.Graph.{Ascends, AreAllSupers, AreSupers, Graph, Has}
use Rattle.class_supers.proofs.Rows.{either_true, left_true, right_true}
use Rattle.class_members.specs.declared.hierarchy.Hierarchy.{Hierarchy}
use Rattle.class_members.specs.Above.{AreChains, IsHierarchy, links_of, parent_of}

same_number : (x d : ℕ) → (x == d) ≡ true → x ≡ d
same_number x d h = grind (arith, h)

number_same : (x d : ℕ) → x ≡ d → (x == d) ≡ true
number_same x d h = grind (arith, h)

-- ---- two lists with the same elements at each place

pub each_same : {A : Type 0} (xs ys : List A) → length xs ≡ length ys
    → ((c : ℕ) (x y : A) → slice_get xs c ≡ Some x → slice_get ys c ≡ Some y → x ≡ y) → xs ≡ ys
each_same [] [] l e = refl
each_same [] (y ∷ ys) l e = absurd (omega (arith, l))
each_same (x ∷ xs) [] l e = absurd (omega (arith, l))
each_same (x ∷ xs) (y ∷ ys) l e =
    let first : x ≡ y = e 0 x y refl refl in
    let rest : xs ≡ ys = each_same xs ys (omega (arith, l)) (λ c a b p q. e (suc c) a b p q) in
    rw (first, rest) refl

-- ---- two ascending lists of the same numbers

at_least : (k : ℕ) (xs : List ℕ) (d : ℕ) → Ascends k xs → Has xs d → k ≤ d
at_least k [] d a h = absurd cc
at_least k (x ∷ xs) d a h = elim (either_true (x == d) (list_any (λ y. y == d) xs) h) [
  | inl e ↦ let s : x ≡ d = same_number x d e in let le = a.0 in omega (arith, s, le)
  | inr m ↦ let up : suc x ≤ d = at_least (suc x) xs d a.1 m in let le = a.0 in omega (arith, up, le)
]

head_first : (k x y : ℕ) (ys : List ℕ) → Ascends k (y ∷ ys) → Has (y ∷ ys) x → y ≤ x
head_first k x y ys a h = elim (either_true (y == x) (list_any (λ z. z == x) ys) h) [
  | inl e ↦ let s : y ≡ x = same_number y x e in omega (arith, s)
  | inr m ↦ let up : suc y ≤ x = at_least (suc y) ys x a.1 m in omega (arith, up)
]

has_head : (x : ℕ) (xs : List ℕ) → Has (x ∷ xs) x
has_head x xs = left_true (x == x) (list_any (λ y. y == x) xs) (number_same x x refl)

in_tail : (x y : ℕ) (xs ys : List ℕ) (d : ℕ) → x ≡ y → Ascends (suc x) xs → Has xs d → Has (y ∷ ys) d → Has ys d
in_tail x y xs ys d s a h g = elim (either_true (y == d) (list_any (λ z. z == d) ys) g) [
  | inl e ↦ let same : y ≡ d = same_number y d e in let up : suc x ≤ d = at_least (suc x) xs d a h in absurd (omega (arith, same, up, s))
  | inr m ↦ m
]

pub same_numbers : (k : ℕ) (xs ys : List ℕ) → Ascends k xs → Ascends k ys → ((d : ℕ) → Has xs d → Has ys d)
    → ((d : ℕ) → Has ys d → Has xs d) → xs ≡ ys
same_numbers k [] [] a b f g = refl
same_numbers k [] (y ∷ ys) a b f g = let h : Has [] y = g y (has_head y ys) in absurd cc
same_numbers k (x ∷ xs) [] a b f g = let h : Has [] x = f x (has_head x xs) in absurd cc
same_numbers k (x ∷ xs) (y ∷ ys) a b f g =
    let low : y ≤ x = head_first k x y ys b (f x (has_head x xs)) in
    let high : x ≤ y = head_first k y x xs a (g y (has_head y ys)) in
    let same : x ≡ y = omega (arith, low, high) in
    let rest : xs ≡ ys = same_numbers (suc x) xs ys a.1 (subst (λ z. Ascends (suc z) ys) (sym same) b.1)
    (λ d h. in_tail x y xs ys d same a.1 h (f d (right_true (x == d) (list_any (λ z. z == d) xs) h)))
    (λ d h. in_tail y x ys xs d (sym same) b.1 h (g d (right_true (y == d) (list_any (λ z. z == d) ys) h))) in
    rw (same, rest) refl

-- ---- what classes are below, and the chains above them

same_supers : (g : Graph) (c : ℕ) (xs ys : List ℕ) → AreSupers g c xs → AreSupers g c ys → xs ≡ ys
same_supers g c xs ys p q =
    same_numbers 0 xs ys p.ascending q.ascending
    (λ d h. let u = p.each d h in q.all d u.0 u.1)
    (λ d h. let u = q.each d h in p.all d u.0 u.1)

all_supers_same : (g : Graph) (xs ys : List (List ℕ)) → AreAllSupers g xs → AreAllSupers g ys → xs ≡ ys
all_supers_same g xs ys p q =
    each_same xs ys (p.long ∙ sym q.long) (λ c x y a b. same_supers g c x y (p.each c x a) (q.each c y b))

chains_same : (parents : List (Option ℕ)) (xs ys : List (List ℕ)) → AreChains parents xs → AreChains parents ys → xs ≡ ys
chains_same parents xs ys p q =
    each_same xs ys (p.long ∙ sym q.long) (λ c x y a b. p.each c x a ∙ sym (q.each c y b))

-- ---- the hierarchy

abbrev with_parts : List Header → List (Option ℕ) → List (List ℕ) → List (List ℕ) → List (List ℕ) → Hierarchy
with_parts a b c d e = record { headers = a; parents = b; links = c; chains = d; supers = e }

same_parts : (a a2 : List Header) (b b2 : List (Option ℕ)) (c c2 d d2 e e2 : List (List ℕ)) → a ≡ a2 → b ≡ b2 → c ≡ c2
    → d ≡ d2 → e ≡ e2 → with_parts a b c d e ≡ with_parts a2 b2 c2 d2 e2
same_parts a a2 b b2 c c2 d d2 e e2 p q r s t = rw (p, q, r, s, t) refl

pub one_hierarchy : (hs : List Header) (h k : Hierarchy) → IsHierarchy hs h → IsHierarchy hs k → h ≡ k
one_hierarchy hs h k p q =
    same_parts h.headers k.headers h.parents k.parents h.links k.links h.chains k.chains h.supers k.supers
    (p.headers ∙ sym q.headers) (p.parents ∙ sym q.parents) (p.links ∙ sym q.links)
    (chains_same (map (parent_of hs) hs) h.chains k.chains p.chains q.chains)
    (all_supers_same (map (links_of hs) hs) h.supers k.supers p.supers q.supers)
