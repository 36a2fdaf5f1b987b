-- No more steps from type parameters to bounds are needed than there are bounds.
use Rattle.std.proofs.Common.{ℕ, suc, zero, Bool, true, false, ◌≡◌, refl, subst, sym, inl, inr, List, [], ◌∷◌, length, ◌<◌, ◌≤◌, Some, None, arith}
use Rattle.std.specs.Prelude.{◌||◌, slice_get, IsTrue, ◌↔◌}
use Rattle.std.specs.List.{list_any, IsDistinct, AllByRecursion}
use Rattle.std.proofs.Math.Dec.{eqb}
use Rattle.std.proofs.lemmas.Bool.Decides.{eqb_tells}
use Rattle.std.proofs.lemmas.Option.{slice_get_within}
use Rattle.std.proofs.lemmas.Map.Steps.{length-le_from_distinct_below}
use Rattle.kt_types_tree.specs.declared.types.TypeConstructor.{TypeConstructor}
use Rattle.kt_types_tree.specs.Types.{ShapeForm, TypeForms, typed, nothing, any, parameter, of}
use Rattle.kt_types_tree.specs.Hierarchy.{HierarchyForm}
use Rattle.kt_types_order.specs.Climbing.{IsUnder, Allows, u_same, u_any, u_any_nullable, u_bounded}
use Rattle.kt_types_order.proofs.Rules.{weaker, allows_or, allows_both, allows_left, allows_same}
use Rattle.kt_types.specs.Bounds.{IsAtOnce, IsUnderIn}

module _ (h : HierarchyForm) where
  -- without a step to a bound
  abbrev IsEnd : Bool → ShapeForm → Bool → ShapeForm → Type 0
  IsEnd n s m t = IsUnderIn h 0 n s m t

  -- by the bounds in these rows
  data IsChain : List ℕ → Bool → ShapeForm → Bool → ShapeForm → Type 0 where
    ends : {n m : Bool} {s t : ShapeForm} → IsEnd n s m t → IsChain [] n s m t
    goes : {n m k : Bool} {row place : ℕ} {s t : ShapeForm} {rows : List ℕ} → slice_get h.bounds row ≡ Some (typed k s) → IsChain rows (n || k) s m t → IsChain (row ∷ rows) n (parameter row place) m t

  end_loosens : (n l : Bool) (s : ShapeForm) (m : Bool) (t : ShapeForm) → Allows l n → IsEnd n s m t → IsEnd l s m t
  unfolding IsUnderIn
  end_loosens n l nothing m t a p = weaker h n l nothing m t a p
  end_loosens n l any m t a p = weaker h n l any m t a p
  end_loosens n l (of c ts) m t a p = weaker h n l (of c ts) m t a p
  end_loosens n l (parameter row place) m t a (inl e) = inl e
  end_loosens n l (parameter row place) m t a (inr e) = inr (allows_both l n m a e.0, e.1)

  loosens : (n l : Bool) (s : ShapeForm) (m : Bool) (t : ShapeForm) (rows : List ℕ) → Allows l n → IsChain rows n s m t → IsChain rows l s m t
  loosens n l s m t _ a (ends p) = ends (end_loosens n l s m t a p)
  loosens n l _ m t _ a (goes {k = k} {s = s} {rows = rows} p q) = goes p (loosens (n || k) (l || k) s m t rows (allows_or l n k a) q)

  -- the part of a chain behind a row
  abbrev Behind : ℕ → Bool → Bool → ShapeForm → Type 0
  Behind row n m t = (k : Bool) × ((s : ShapeForm) × ((rows : List ℕ) × ((l : Bool) × ((slice_get h.bounds row ≡ Some (typed k s)) × (IsChain rows (l || k) s m t × (Allows n l × IsDistinct eqb (row ∷ rows)))))))

  behind : (row : ℕ) (rows : List ℕ) (n : Bool) (s : ShapeForm) (m : Bool) (t : ShapeForm) → IsChain rows n s m t → list_any (eqb row) rows ≡ true → IsDistinct eqb rows → Behind row n m t
  unfolding IsDistinct
  behind row _ n s m t (ends p) here d = cc
  behind row _ n _ m t (goes {k = k} {row = first} {s = s} {rows = rows} p q) here d = elim (eqb_tells row first) [
    | inl e ↦ subst (λ r. Behind r n m t) (sym e.1) (k, (s, (rows, (n, (p, (q, (allows_same n, d)))))))
    | inr e ↦ let r = behind row rows (n || k) s m t q (rw e.0 at here) d.1 in
        (r.0, (r.1.0, (r.1.1.0, (r.1.1.1.0, (r.1.1.1.1.0, (r.1.1.1.1.1.0, (allows_left n k r.1.1.1.0 r.1.1.1.1.1.1.0, r.1.1.1.1.1.1.1)))))))
  ]

  all_apart : (row : ℕ) (rows : List ℕ) → list_any (eqb row) rows ≡ false → AllByRecursion (λ y. eqb row y ≡ false) rows
  all_apart row [] e = tt
  all_apart row (x ∷ rows) e = elim (eqb_tells row x) [ inl a ↦ let f : true ≡ false = rw a.0 at e in cc | inr a ↦ (a.0, all_apart row rows (rw a.0 at e)) ]

  abbrev Short : Bool → ShapeForm → Bool → ShapeForm → Type 0
  Short n s m t = (rows : List ℕ) × (IsChain rows n s m t × IsDistinct eqb rows)

  cut : (n m k : Bool) (row place : ℕ) (s t : ShapeForm) → slice_get h.bounds row ≡ Some (typed k s) → Behind row (n || k) m t → Short n (parameter row place) m t
  cut n m k row place s t p r =
      let k2 = r.0 in
      let s2 = r.1.0 in
      let l = r.1.1.1.0 in
      let a : Allows n l = allows_left n k l r.1.1.1.1.1.1.0 in
      (row ∷ r.1.1.0, (goes r.1.1.1.1.0 (loosens (l || k2) (n || k2) s2 m t r.1.1.0 (allows_or n l k2 a) r.1.1.1.1.1.0), r.1.1.1.1.1.1.1))

  longer : (b : Bool) (n m k : Bool) (row place : ℕ) (s t : ShapeForm) → slice_get h.bounds row ≡ Some (typed k s) → (r : Short (n || k) s m t) → list_any (eqb row) r.0 ≡ b → Short n (parameter row place) m t
  unfolding IsDistinct
  longer true n m k row place s t p r e = cut n m k row place s t p (behind row r.0 (n || k) s m t r.1.0 e r.1.1)
  longer false n m k row place s t p r e = (row ∷ r.0, (goes p r.1.0, (all_apart row r.0 e, r.1.1)))

  -- each row once is enough
  shortened : (rows : List ℕ) (n : Bool) (s : ShapeForm) (m : Bool) (t : ShapeForm) → IsChain rows n s m t → Short n s m t
  unfolding IsDistinct
  shortened _ n s m t (ends p) = ([], (ends p, tt))
  shortened _ n _ m t (goes {k = k} {row = row} {place = place} {s = s} {rows = rows} p q) = let r = shortened rows (n || k) s m t q in longer (list_any (eqb row) r.0) n m k row place s t p r refl

  below_first : (q row : ℕ) (rows : List ℕ) → row < length h.bounds → (list_any (eqb q) rows ≡ true → q < length h.bounds) → list_any (eqb q) (row ∷ rows) ≡ true → q < length h.bounds
  below_first q row rows lt more e = elim (eqb_tells q row) [ inl a ↦ subst (λ x. x < length h.bounds) (sym a.1) lt | inr a ↦ more (rw a.0 at e) ]

  all_below : (rows : List ℕ) (n : Bool) (s : ShapeForm) (m : Bool) (t : ShapeForm) → IsChain rows n s m t → (q : ℕ) → list_any (eqb q) rows ≡ true → q < length h.bounds
  all_below _ n s m t (ends p) q e = cc
  all_below _ n _ m t (goes {k = k} {row = row} {s = s} {rows = rows} p r) q e = below_first q row rows (slice_get_within h.bounds row (typed k s) p) (all_below rows (n || k) s m t r q) e

  counted : (rows : List ℕ) (n : Bool) (s : ShapeForm) (m : Bool) (t : ShapeForm) → IsChain rows n s m t → IsUnderIn h (length rows) n s m t
  unfolding IsUnderIn
  counted _ n s m t (ends p) = p
  counted _ n _ m t (goes {k = k} {row = row} {place = place} {s = s} {rows = rows} p q) = inr (k, (s, (p, counted rows (n || k) s m t q)))

  more_room : (k j : ℕ) (n : Bool) (s : ShapeForm) (m : Bool) (t : ShapeForm) → k ≤ j → IsUnderIn h k n s m t → IsUnderIn h j n s m t
  unfolding IsUnderIn
  more_room k j n nothing m t le p = p
  more_room k j n any m t le p = p
  more_room k j n (of c ts) m t le p = p
  more_room zero zero n (parameter row place) m t le p = p
  more_room zero (suc j) n (parameter row place) m t le p = inl p
  more_room (suc k) zero n (parameter row place) m t le p = absurd (omega arith)
  more_room (suc k) (suc j) n (parameter row place) m t le (inl p) = inl p
  more_room (suc k) (suc j) n (parameter row place) m t le (inr p) = inr (p.0, (p.1.0, (p.1.1.0, more_room k j (n || p.0) p.1.0 m t (omega arith) p.1.1.1)))

  chained : (n : Bool) (s : ShapeForm) (m : Bool) (t : ShapeForm) → IsUnder h n s m t → (rows : List ℕ) × IsChain rows n s m t
  unfolding IsUnderIn
  chained n nothing m t d = ([], ends d)
  chained n any m t d = ([], ends d)
  chained n (of c ts) m t d = ([], ends d)
  chained n (parameter row place) m _ (u_same p) = ([], ends (inr (p, refl)))
  chained n (parameter row place) m _ (u_any p q) = absurd q
  chained n (parameter row place) _ _ u_any_nullable = ([], ends (inl (refl, refl)))
  chained n (parameter row place) m t (u_bounded {k = k} {s = s} p q) = let r = chained (n || k) s m t q in (row ∷ r.0, goes p r.1)

  at_once_under : (n : Bool) (row place : ℕ) (m : Bool) (t : ShapeForm) → IsAtOnce n row place m t → IsUnder h n (parameter row place) m t
  at_once_under n row place m t (inl e) = rw (e.0, e.1) u_any_nullable
  at_once_under n row place m t (inr e) = rw e.1 (u_same e.0)

  under : (k : ℕ) (n : Bool) (s : ShapeForm) (m : Bool) (t : ShapeForm) → IsUnderIn h k n s m t → IsUnder h n s m t
  unfolding IsUnderIn
  under k n nothing m t p = p
  under k n any m t p = p
  under k n (of c ts) m t p = p
  under zero n (parameter row place) m t p = at_once_under n row place m t p
  under (suc k) n (parameter row place) m t (inl p) = at_once_under n row place m t p
  under (suc k) n (parameter row place) m t (inr p) = u_bounded p.1.1.0 (under k (n || p.0) p.1.0 m t p.1.1.1)

  -- as many steps as there are bounds find all
  pub enough : (n : Bool) (s : ShapeForm) (m : Bool) (t : ShapeForm) → IsUnder h n s m t → IsUnderIn h (length h.bounds) n s m t
  enough n s m t d =
      let c = chained n s m t d in
      let r = shortened c.0 n s m t c.1 in
      let few : length r.0 ≤ length h.bounds = length-le_from_distinct_below r.0 (length h.bounds) r.1.1 (all_below r.0 n s m t r.1.0) in
      more_room (length r.0) (length h.bounds) n s m t few (counted r.0 n s m t r.1.0)

  pub all_steps : (r : Bool) (k : ℕ) (n : Bool) (s : ShapeForm) (m : Bool) (t : ShapeForm) → k ≡ length h.bounds → IsTrue r ↔ IsUnderIn h k n s m t → IsTrue r ↔ IsUnder h n s m t
  all_steps r k n s m t e f = ((λ x. under k n s m t (f.0 x)), (λ d. f.1 (rw e (enough n s m t d))))

  -- one step of the code
  pub by_none : (r : Bool) (k : ℕ) (n : Bool) (m : Bool) (t : ShapeForm) → IsTrue r ↔ IsUnder h n nothing m t → IsTrue r ↔ IsUnderIn h k n nothing m t
  unfolding IsUnderIn
  by_none r k n m t f = f

  pub by_any : (r : Bool) (k : ℕ) (n : Bool) (m : Bool) (t : ShapeForm) → IsTrue r ↔ IsUnder h n any m t → IsTrue r ↔ IsUnderIn h k n any m t
  unfolding IsUnderIn
  by_any r k n m t f = f

  pub by_of : (r : Bool) (k : ℕ) (n : Bool) (c : TypeConstructor) (ts : TypeForms) (m : Bool) (t : ShapeForm) → IsTrue r ↔ IsUnder h n (of c ts) m t → IsTrue r ↔ IsUnderIn h k n (of c ts) m t
  unfolding IsUnderIn
  by_of r k n c ts m t f = f

  pub at_once : (k : ℕ) (n : Bool) (row place : ℕ) (m : Bool) (t : ShapeForm) → IsAtOnce n row place m t → IsUnderIn h k n (parameter row place) m t
  unfolding IsUnderIn
  at_once zero n row place m t e = e
  at_once (suc k) n row place m t e = inl e

  pub no_steps : (k : ℕ) (n : Bool) (row place : ℕ) (m : Bool) (t : ShapeForm) → k ≡ 0 → (IsAtOnce n row place m t → ⊥) → IsUnderIn h k n (parameter row place) m t → ⊥
  unfolding IsUnderIn
  no_steps zero n row place m t e f p = f p
  no_steps (suc k) n row place m t e f p = omega arith

  pub no_bound : (k : ℕ) (n : Bool) (row place : ℕ) (m : Bool) (t : ShapeForm) → slice_get h.bounds row ≡ None → (IsAtOnce n row place m t → ⊥) → IsUnderIn h k n (parameter row place) m t → ⊥
  unfolding IsUnderIn
  no_bound zero n row place m t e f p = f p
  no_bound (suc k) n row place m t e f (inl p) = f p
  no_bound (suc k) n row place m t e f (inr p) = let g = p.1.1.0 in cc

  found_bound : (i n m k : Bool) (s t : ShapeForm) (row j : ℕ) → slice_get h.bounds row ≡ Some (typed k s) → (l : Bool) (w : ShapeForm) → slice_get h.bounds row ≡ Some (typed l w) → IsUnderIn h j (n || l) w m t → IsUnderIn h j (n || k) s m t
  found_bound i n m k s t row j e l w f u = let g : l ≡ k = cc in let x : w ≡ s = cc in rw (← g, ← x) u

  pub one_step : (r : Bool) (steps j : ℕ) (n m k : Bool) (row place : ℕ) (s t : ShapeForm) → steps ≡ suc j → slice_get h.bounds row ≡ Some (typed k s) → (IsAtOnce n row place m t → ⊥) → IsTrue r ↔ IsUnderIn h j (n || k) s m t → IsTrue r ↔ IsUnderIn h steps n (parameter row place) m t
  unfolding IsUnderIn
  one_step r zero j n m k row place s t z e other f = absurd (omega arith)
  one_step r (suc i) j n m k row place s t z e other f =
      let same : j ≡ i = omega arith in
      let g : IsTrue r ↔ IsUnderIn h i (n || k) s m t = subst (λ x. IsTrue r ↔ IsUnderIn h x (n || k) s m t) same f in (
        (λ x. inr (k, (s, (e, g.0 x)))),
        (λ u. elim u [ inl a ↦ absurd (other a) | inr w ↦ g.1 (found_bound true n m k s t row i e w.0 w.1.0 w.1.1.0 w.1.1.1) ]),
      )
