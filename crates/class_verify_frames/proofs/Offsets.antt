-- What is found by an offset, where offsets ascend.
use Rattle.std.proofs.Common.{◌≡◌, ℕ, zero, suc, ◌+◌, ◌<◌, ◌≤◌, Bool, true, false, List, [], ◌∷◌, length, map, get_or, Option, Some, None, Result, Ok, Err, ◌⊎◌, inl, inr, refl, sym, ap, subst, ◌∙◌, arith}
use Rattle.std.specs.Prelude.{slice_get, find, ◌==◌}
use Rattle.std.specs.List.Sorted.{IsBinarySearchResult}
use Rattle.std.specs.Ordering.{nat_cmp}
use Rattle.std.proofs.lemmas.Bool.{cases_lt, eq-eqb, ne_eqb}
use Rattle.std.proofs.lemmas.List.Sorted.{searched}
use Rattle.std.proofs.lemmas.Option.{slice_get_read, slice_get_within}
use Rattle.class_supers.specs.Graph.{Ascends}

-- each is at least the first bound
above : (k : ℕ) (xs : List ℕ) (i : ℕ) → Ascends k xs → i < length xs → k ≤ get_or xs i 0
above k [] i h lt = absurd (omega (arith, lt))
above k (x ∷ xs) zero h lt = h.0
above k (x ∷ xs) (suc i) h lt = omega (arith, h.0, above (suc x) xs i h.1 (omega (arith, lt)))

pub rises : (k : ℕ) (xs : List ℕ) (i j : ℕ) → Ascends k xs → i ≤ j → j < length xs → get_or xs i 0 ≤ get_or xs j 0
rises k [] i j h le lt = absurd (omega (arith, lt))
rises k (x ∷ xs) zero zero h le lt = omega arith
rises k (x ∷ xs) zero (suc j) h le lt = omega (arith, above (suc x) xs j h.1 (omega (arith, lt)))
rises k (x ∷ xs) (suc i) zero h le lt = absurd (omega (arith, le))
rises k (x ∷ xs) (suc i) (suc j) h le lt = rises (suc x) xs i j h.1 (omega (arith, le)) (omega (arith, lt))

got : (xs : List ℕ) (i x : ℕ) → slice_get xs i ≡ Some x → get_or xs i 0 ≡ x
got [] i x e = absurd cc
got (y ∷ xs) zero x e = cc
got (y ∷ xs) (suc i) x e = got xs i x e

pub none_stands : (xs : List ℕ) (x i : ℕ) → Ascends 0 xs → IsBinarySearchResult (λ y. nat_cmp y x) xs (Err i) → (k : ℕ) → slice_get xs k ≡ Some x → ⊥
none_stands xs x i up h k e =
    let r = searched xs x (Err i) h (λ a b le lt. rises 0 xs a b up le lt) in
    by (slice_get_within xs k x e) (got xs k x e) (cases_lt k i) r.1 r.2
  where
    by : k < length xs → get_or xs k 0 ≡ x → (k < i) ⊎ (i ≤ k) → ((j : ℕ) → j < i → get_or xs j 0 < x) → ((j : ℕ) → i ≤ j → j < length xs → x < get_or xs j 0) → ⊥
    by lt q (inl below) low high = omega (arith, q, low k below)
    by lt q (inr over) low high = omega (arith, q, high k over lt)

module _ {A : Type 0} (key : A → ℕ) where
  low : (k : ℕ) (items : List A) (n : ℕ) (a : A) → Ascends k (map key items) → slice_get items n ≡ Some a → k ≤ key a
  low k [] n a h e = absurd cc
  low k (b ∷ items) zero a h e = let same : b ≡ a = cc in subst (λ x. k ≤ key x) same h.0
  low k (b ∷ items) (suc n) a h e = omega (arith, h.0, low (suc (key b)) items n a h.1 e)

  pub found : (k : ℕ) (items : List A) (n o : ℕ) (a : A) → Ascends k (map key items) → slice_get items n ≡ Some a → key a ≡ o → find (λ x. key x == o) items ≡ Some a
  found k [] n o a h e q = absurd cc
  found k (b ∷ items) zero o a h e q =
      let same : b ≡ a = cc in
      let t : (key b == o) ≡ true = eq-eqb (key b) o (ap key same ∙ q) in
      rw t (ap Some same)
  found k (b ∷ items) (suc n) o a h e q =
      let lt : suc (key b) ≤ key a = low (suc (key b)) items n a h.1 e in
      let t : (key b == o) ≡ false = ne_eqb (key b) o (λ s. omega (arith, lt, s, q)) in
      rw t (found (suc (key b)) items n o a h.1 e q)

  pub missing : (items : List A) (o : ℕ) → ((n : ℕ) → slice_get (map key items) n ≡ Some o → ⊥) → find (λ x. key x == o) items ≡ None
  missing [] o h = refl
  missing (b ∷ items) o h =
      let t : (key b == o) ≡ false = ne_eqb (key b) o (λ s. h 0 (ap Some s)) in
      rw t (missing items o (λ n e. h (suc n) e))

  pub mapped : (items : List A) (n o : ℕ) → slice_get (map key items) n ≡ Some o → (a : A) × (slice_get items n ≡ Some a) × (key a ≡ o)
  mapped [] n o e = absurd cc
  mapped (b ∷ items) zero o e = (b, refl, cc)
  mapped (b ∷ items) (suc n) o e = mapped items n o e

  pub finds : (items : List A) (starts : List ℕ) (n o : ℕ) → starts ≡ map key items → Ascends 0 starts → slice_get starts n ≡ Some o → slice_get items n ≡ find (λ x. key x == o) items
  finds items starts n o is up e =
      let m = mapped items n o (subst (λ xs. slice_get xs n ≡ Some o) is e) in
      m.1 ∙ sym (found 0 items n o m.0 (subst (Ascends 0) is up) m.1 m.2)

  pub finds_none : (items : List A) (starts : List ℕ) (o : ℕ) → starts ≡ map key items → ((k : ℕ) → slice_get starts k ≡ Some o → ⊥) → None ≡ find (λ x. key x == o) items
  finds_none items starts o is h = sym (missing items o (subst (λ xs. (k : ℕ) → slice_get xs k ≡ Some o → ⊥) is h))
