-- Subtyping is decided.
use Rattle.std.proofs.Common.{ℕ, zero, suc, ◌≤◌, List, [], ◌∷◌, Option, Some, None, ◌≡◌, refl, Bool, true, false, length, map, inl, inr, arith}
use Rattle.std.specs.Prelude.{◌||◌, ◌&&◌, ◌==◌, slice_get, option_map, IsTrue, ◌↔◌}
use Rattle.std.specs.List.{list_any}
use Rattle.std.proofs.lemmas.Option.{slice_get-map}
use Rattle.kt_types_tree.specs.declared.types.TypeConstructor.{TypeConstructor}
use Rattle.kt_types_tree.specs.declared.types.TypeConstructor.TheVariants as c
use Rattle.kt_types_tree.specs.Types.{TypeForm, ShapeForm, TypeForms, typed, nothing, any, parameter, of, substituted_all}
use Rattle.kt_types_tree.specs.Hierarchy.{HierarchyForm, HeaderForm, SuperForm, HasSuper, supers_of, supers_or_none}
use Rattle.kt_types_tree.proofs.Parts.{yes, no}
use Rattle.kt_types_order.specs.Below.{IsBelow}
use Rattle.kt_types_order.specs.Climbing.{Allows, IsUnder, Climbs, here, up, IsNoClass, u_any}
use Rattle.kt_types_order.specs.Graph.{ClassesEnd, Leads, class_graph, super_rows, row_or_none}
use Rattle.kt_types_order.proofs.Rules.{by_rules, grows}
use Rattle.kt_types_climbing.specs.Weights.{weight}
use Rattle.kt_types_climbing.proofs.Weights.{weighs, lighter}
use Rattle.kt_types.specs.Bounds.{IsAtOnce, IsUnderIn}
use Rattle.kt_types.proofs.Under.{nothing_under, any_under, any_not_under, of_not_nothing, of_not_parameter, with_null, same_under, class_under, not_under_none, other_constructor}
use Rattle.kt_types.proofs.Chains.{by_none, by_any, by_of, at_once as at_once_in, no_steps, no_bound, one_step, all_steps}
use Rattle.kt_flow.specs.Sameness.{same_constructor, same_types}
use Rattle.kt_flow.proofs.Same.{number_refl, types_refl, constructor_refl, number_only, types_only, constructor_only}
use Rattle.kt_check_deciding.specs.Subtypes.{climbs_in, climbs, allows, is_any, is_same_parameter, at_once, constructed, of_below, bound_then, under_in, is_below}
use Rattle.kt_check_deciding.proofs.Tests.{both_true, one_true, left_true, right_true, not_both, any_found, any_there}

-- a class leads to the classes of its supertypes
leads_of : (o : Option HeaderForm) (g : Option (List ℕ)) (i : ℕ) (s : SuperForm) → g ≡ option_map super_rows o →
    slice_get (supers_or_none o) i ≡ Some s → slice_get (row_or_none g) i ≡ Some s.class
leads_of None g i s e f = cc
leads_of (Some d) g i s e f = rw e (mapped d.supertypes i s f)
  where
    mapped : (ss : List SuperForm) (i : ℕ) (s : SuperForm) → slice_get ss i ≡ Some s → slice_get (map (λ s. s.class) ss) i ≡ Some s.class
    mapped [] i s e = cc
    mapped (r ∷ ss) zero s e = let g : r ≡ s = cc in rw g refl
    mapped (r ∷ ss) (suc i) s e = mapped ss i s e

module _ (h : HierarchyForm) where
  -- the class itself, or one of those above it
  abbrev is_here : ℕ → TypeForms → ℕ → TypeForms → Bool
  is_here n all d others = n == d && same_types all others

  abbrev is_above : ℕ → TypeForms → ℕ → TypeForms → SuperForm → Bool
  is_above k all d others s = climbs_in h k s.class (substituted_all all s.arguments) d others

  climbs_sound : (k n : ℕ) (all : TypeForms) (d : ℕ) (others : TypeForms) → climbs_in h k n all d others ≡ true →
      Climbs h n all d others
  unfolding climbs_in
  climbs_sound zero n all d others e = cc
  climbs_sound (suc k) n all d others e = elim (one_true (is_here n all d others)
      (list_any (is_above k all d others) (supers_of h n)) e) [
        | inl f ↦
            let b = both_true (n == d) (same_types all others) f in
            rw (number_only n d b.0, types_only all others b.1) here
        | inr f ↦
            let r = any_found (is_above k all d others) (supers_of h n) f in
            up (r.0, r.1.1.0) (climbs_sound k r.1.0.class (substituted_all all r.1.0.arguments) d others r.1.1.1)
      ]

  leads : (n : ℕ) (s : SuperForm) → HasSuper h n s → Leads (class_graph h) n s.class
  leads n s p =
      (p.0, leads_of (slice_get h.classes n) (slice_get (class_graph h) n) p.0 s (slice_get-map super_rows h.classes n) p.1)

  module _ (ends : ClassesEnd h) where
    climbs_found : (k n : ℕ) (all : TypeForms) (d : ℕ) (others : TypeForms) → weight (class_graph h) n ≤ k →
        Climbs h n all d others → climbs_in h k n all d others ≡ true
    unfolding climbs_in
    climbs_found zero n all d others less p = let w = weighs (class_graph h) ends n in absurd (omega arith)
    climbs_found (suc k) n all _ _ less here =
        left_true (is_here n all n all) (list_any (is_above k all n all) (supers_of h n))
        (rw (number_refl n, types_refl all) refl)
    climbs_found (suc k) n all d others less (up {s = s} p q) =
        let w = lighter (class_graph h) ends n s.class (leads n s p) in
        right_true (is_here n all d others) (list_any (is_above k all d others) (supers_of h n))
        (any_there (is_above k all d others) (supers_of h n) p.0 s p.1
        (climbs_found k s.class (substituted_all all s.arguments) d others (omega arith) q))

    climbs_is : (n : ℕ) (all : TypeForms) (d : ℕ) (others : TypeForms) →
        IsTrue (climbs h n all d others) ↔ Climbs h n all d others
    climbs_is n all d others = (
      (λ e. climbs_sound (weight (class_graph h) n) n all d others e),
      (λ p. climbs_found (weight (class_graph h) n) n all d others (omega arith) p),
    )

    allows_is : (n m : Bool) → IsTrue (allows n m) ↔ Allows n m
    allows_is true true = yes tt
    allows_is true false = no (λ x. x)
    allows_is false m = yes tt

    at_once_is : (n : Bool) (row place : ℕ) (m : Bool) (t : ShapeForm) → IsTrue (at_once n row place m t) ↔
        IsAtOnce n row place m t
    at_once_is n row place m t = (to n m t, from n m t)
      where
        is_any_only : (t : ShapeForm) → is_any t ≡ true → t ≡ any
        is_any_only any e = refl
        is_any_only nothing e = cc
        is_any_only (parameter r p) e = cc
        is_any_only (of d ts) e = cc

        is_parameter_only : (t : ShapeForm) → is_same_parameter row place t ≡ true → t ≡ parameter row place
        is_parameter_only (parameter r p) e =
            let b = both_true (row == r) (place == p) e in
            rw (number_only row r b.0, number_only place p b.1) refl
        is_parameter_only nothing e = cc
        is_parameter_only any e = cc
        is_parameter_only (of d ts) e = cc

        to : (n m : Bool) (t : ShapeForm) → at_once n row place m t ≡ true → IsAtOnce n row place m t
        to n m t e = elim (one_true (m && is_any t) (allows n m && is_same_parameter row place t) e) [
          | inl f ↦ let b = both_true m (is_any t) f in inl (b.0, is_any_only t b.1)
          | inr f ↦
              let b = both_true (allows n m) (is_same_parameter row place t) f in
              inr ((allows_is n m).0 b.0, is_parameter_only t b.1)
        ]

        from : (n m : Bool) (t : ShapeForm) → IsAtOnce n row place m t → at_once n row place m t ≡ true
        from n m t (inl p) =
            left_true (m && is_any t) (allows n m && is_same_parameter row place t) (rw (p.0, p.1) refl)
        from n m t (inr p) =
            right_true (m && is_any t) (allows n m && is_same_parameter row place t) (rw (p.1, (allows_is n m).1 p.0, number_refl row, number_refl place) refl)

    types_is : (ts us : TypeForms) → IsTrue (same_types ts us) ↔ (ts ≡ us)
    types_is ts us = ((λ e. types_only ts us e), (λ e. rw (← e) (types_refl ts)))

    constructor_is : (d e : TypeConstructor) (all others : TypeForms) → IsNoClass d →
        IsTrue (same_constructor d e && same_types all others) ↔ IsUnder h false (of d all) false (of e others)
    constructor_is d e all others is_none = by_flag (same_constructor d e) refl
      where
        by_flag : (b : Bool) → same_constructor d e ≡ b →
            IsTrue (b && same_types all others) ↔ IsUnder h false (of d all) false (of e others)
        by_flag true f =
            same_under h (same_types all others) d e all others is_none (constructor_only d e f) (types_is all others)
        by_flag false f =
            no (other_constructor h d e all others is_none
            (λ g. not_both (same_constructor d e) (rw (← g) (constructor_refl d)) f))

    constructed_is : (d : TypeConstructor) (all : TypeForms) (e : TypeConstructor) (others : TypeForms) →
        IsTrue (constructed h d all e others) ↔ IsUnder h false (of d all) false (of e others)
    constructed_is (c.Class n) all (c.Class m) others =
        class_under h (climbs h n all m others) (c.Class n) (c.Class m) n m all others refl refl
        (climbs_is n all m others)
    constructed_is (c.Class n) all e others =
        no (not_under_none h (c.Class n) e n all others refl (λ m f. cc))
    constructed_is d all e others = constructor_is d e all others (λ m f. cc)

    of_is : (n m : Bool) (d : TypeConstructor) (all : TypeForms) (t : ShapeForm) →
        IsTrue (allows n m && of_below h d all t) ↔ IsUnder h n (of d all) m t
    of_is n m d all t = by_flag (allows n m) refl t
      where
        by_flag : (b : Bool) → allows n m ≡ b → (t : ShapeForm) →
            IsTrue (b && of_below h d all t) ↔ IsUnder h n (of d all) m t
        by_flag false f t =
            no (λ u. not_both (allows n m) ((allows_is n m).1 (grows h n (of d all) m t u)) f)
        by_flag true f nothing = no (of_not_nothing h n m d all)
        by_flag true f any = yes (u_any ((allows_is n m).0 f) tt)
        by_flag true f (parameter row place) = no (of_not_parameter h n m d all row place)
        by_flag true f (of e others) =
            with_null h (constructed h d all e others) n m d e all others ((allows_is n m).0 f)
            (constructed_is d all e others)

    any_is : (n m : Bool) (t : ShapeForm) → IsTrue (is_any t && allows n m) ↔ IsUnder h n any m t
    any_is n m any = any_under h (allows n m) n m (allows_is n m)
    any_is n m t = no (any_not_under h n m t (λ e. cc))

    under_is : (k : ℕ) (n : Bool) (s : ShapeForm) (m : Bool) (t : ShapeForm) →
        IsTrue (under_in h k n s m t) ↔ IsUnderIn h k n s m t
    unfolding under_in
    under_is k n nothing m t = by_none h (allows n m) k n m t (nothing_under h (allows n m) n m t (allows_is n m))
    under_is k n any m t = by_any h (is_any t && allows n m) k n m t (any_is n m t)
    under_is k n (of d all) m t =
        by_of h (allows n m && of_below h d all t) k n d all m t (of_is n m d all t)
    under_is zero n (parameter row place) m t = by_flag (at_once n row place m t) refl
      where
        by_flag : (b : Bool) → at_once n row place m t ≡ b → IsTrue b ↔ IsUnderIn h zero n (parameter row place) m t
        by_flag true f = yes (at_once_in h zero n row place m t ((at_once_is n row place m t).0 f))
        by_flag false f =
            no (no_steps h zero n row place m t refl
            (λ p. not_both (at_once n row place m t) ((at_once_is n row place m t).1 p) f))
    under_is (suc k) n (parameter row place) m t =
        by_flag (at_once n row place m t) (slice_get h.bounds row) refl refl (λ j s. under_is k (n || j) s m t)
      where
        by_flag : (b : Bool) (o : Option TypeForm) → at_once n row place m t ≡ b → slice_get h.bounds row ≡ o →
            ((j : Bool) (s : ShapeForm) → IsTrue (under_in h k (n || j) s m t) ↔ IsUnderIn h k (n || j) s m t) →
            IsTrue (b || bound_then o (λ j s. under_in h k (n || j) s m t)) ↔
            IsUnderIn h (suc k) n (parameter row place) m t
        by_flag true o f e next = yes (at_once_in h (suc k) n row place m t ((at_once_is n row place m t).0 f))
        by_flag false None f e next =
            no (no_bound h (suc k) n row place m t e
            (λ p. not_both (at_once n row place m t) ((at_once_is n row place m t).1 p) f))
        by_flag false (Some (typed j s)) f e next =
            one_step h (under_in h k (n || j) s m t) (suc k) k n m j row place s t refl e
            (λ p. not_both (at_once n row place m t) ((at_once_is n row place m t).1 p) f)
            (next j s)

    -- the test is subtyping
    pub below_is : (a b : TypeForm) → IsTrue (is_below h a b) ↔ IsBelow h a b
    unfolding is_below
    below_is (typed n s) (typed m t) =
        by_rules h (under_in h (length h.bounds) n s m t) (typed n s) (typed m t)
        (all_steps h (under_in h (length h.bounds) n s m t) (length h.bounds) n s m t refl
        (under_is (length h.bounds) n s m t))
