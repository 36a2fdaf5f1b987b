-- Which rows reach themselves, by what each row reaches.
use Rattle.std.proofs.Common.{ℕ, suc, zero, ◌+◌, Bool, true, false, ◌≡◌, ◌<◌, ◌≤◌, ◌⊎◌, inl, inr, refl, sym, ap, subst, ◌∙◌, List, [], ◌∷◌, Option, Some, None, length, arith}
use Rattle.std.specs.Prelude.{slice_get}
use Rattle.std.specs.List.{list_any}
use Rattle.class_supers.specs.Graph.{Graph, IsUnder, same, up, Has, AreAllSupers, IsAboveItself, HasNoCycle, reaches, row_or_none}
use Rattle.class_supers.proofs.Rows.{either_true, left_true, right_true}
use Rattle.class_supers.proofs.Searching.{nowhere}

pub not_both : {b : Bool} → b ≡ true → b ≡ false → ⊥
not_both h e = cc

some_any : (P : ℕ → Bool) (xs : List ℕ) → list_any P xs ≡ true → (i : ℕ) × (d : ℕ) × (slice_get xs i ≡ Some d) × (P d ≡ true)
some_any P [] h = cc
some_any P (x ∷ xs) h = elim (either_true (P x) (list_any P xs) h) [
  | inl e ↦ (0, x, refl, e)
  | inr m ↦ let r = some_any P xs m in (suc r.0, r.1, r.2, r.3)
]

any_some : (P : ℕ → Bool) (xs : List ℕ) (i d : ℕ) → slice_get xs i ≡ Some d → P d ≡ true → list_any P xs ≡ true
any_some P [] i d h e = cc
any_some P (x ∷ xs) zero d h e = let q : d ≡ x = cc in left_true (P x) (list_any P xs) (subst (λ y. P y ≡ true) q e)
any_some P (x ∷ xs) (suc i) d h e = right_true (P x) (list_any P xs) (any_some P xs i d h e)

get_some : {A : Type 0} (xs : List A) (d : ℕ) → d < length xs → (x : A) × (slice_get xs d ≡ Some x)
get_some [] d lt = absurd (omega arith)
get_some (x ∷ xs) zero lt = (x, refl)
get_some (x ∷ xs) (suc d) lt = get_some xs d (omega arith)

module _ (g : Graph) (rows : List (List ℕ)) (all : AreAllSupers g rows) where
  -- what the lists say is so
  listed : (d c : ℕ) (o : Option (List ℕ)) → slice_get rows d ≡ o → Has (row_or_none o) c → IsUnder g d c
  listed d c None e h = cc
  listed d c (Some row) e h = ((all.each d row e).each c h).0

  within : (d c : ℕ) → IsUnder g d c → c < length g → (length g ≤ d → ⊥)
  within d c (same q) lt le = omega arith
  within d c (up {d = x} l r) lt le = nowhere g d x le l

  below : (d n : ℕ) → (n ≤ d → ⊥) → d < n
  below d n f = elim (lower d n) [ inl l ↦ l | inr le ↦ absurd (f le) ]
    where
      lower : (d n : ℕ) → (d < n) ⊎ (n ≤ d)
      lower d zero = inr (omega arith)
      lower zero (suc n) = inl (omega arith)
      lower (suc d) (suc n) = elim (lower d n) [ inl l ↦ inl (omega arith) | inr le ↦ inr (omega arith) ]

  -- and what is so they say
  lists : (d c : ℕ) → IsUnder g d c → c < length g → Has (row_or_none (slice_get rows d)) c
  lists d c u lt =
      let is : d < length g = below d (length g) (within d c u lt) in
      let row = get_some rows d (rw all.long is) in
      subst (λ o. Has (row_or_none o) c) (sym row.1) ((all.each d row.0 row.1).all c u lt)

  pub leads_back_is : (c : ℕ) → c < length g → (b : Bool) → b ≡ list_any (reaches rows c) (row_or_none (slice_get g c)) → (b ≡ true → IsAboveItself g c) × (IsAboveItself g c → b ≡ true)
  leads_back_is c lt b e = (
    λ t. let r = some_any (reaches rows c) (row_or_none (slice_get g c)) (sym e ∙ t) in
        (r.1, (r.0, r.2), listed r.1 c (slice_get rows r.1) refl r.3),
    λ a. e ∙ any_some (reaches rows c) (row_or_none (slice_get g c)) a.1.0 a.0 a.1.1 (lists a.0 c a.2 lt),
  )

pub none_before : (P : ℕ → Type 0) (n : ℕ) → ((d : ℕ) → d < n → P d → ⊥) → (P n → ⊥) → (d : ℕ) → d < n + 1 → P d → ⊥
none_before P n f here d lt p = elim (below_or_at d n lt) [ inl l ↦ f d l p | inr e ↦ here (subst P e p) ]
  where
    below_or_at : (d n : ℕ) → d < n + 1 → (d < n) ⊎ (d ≡ n)
    below_or_at zero zero h = inr refl
    below_or_at zero (suc n) h = inl (omega arith)
    below_or_at (suc d) zero h = absurd (omega arith)
    below_or_at (suc d) (suc n) h = elim (below_or_at d n (omega arith)) [ inl l ↦ inl (omega arith) | inr e ↦ inr (ap suc e) ]

pub none_at_all : (g : Graph) (n : ℕ) → length g ≤ n → ((d : ℕ) → d < n → IsAboveItself g d → ⊥) → HasNoCycle g
none_at_all g n le f c a = elim (lower c n) [ inl l ↦ f c l a | inr m ↦ nowhere g c a.0 (omega arith) a.1 ]
  where
    lower : (d n : ℕ) → (d < n) ⊎ (n ≤ d)
    lower d zero = inr (omega arith)
    lower zero (suc n) = inl (omega arith)
    lower (suc d) (suc n) = elim (lower d n) [ inl l ↦ inl (omega arith) | inr le ↦ inr (omega arith) ]
