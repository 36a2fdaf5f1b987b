-- What `!= null` gives is the type without null.
use Rattle.std.proofs.Common.{ℕ, zero, suc, Option, Some, None, ◌≡◌, refl, sym, ◌∙◌, ap, Bool, true, false, length, inl, inr, if◌then◌else◌}
use Rattle.std.specs.Prelude.{not, ◌||◌, slice_get}
use Rattle.kt_types_tree.specs.Types.{TypeForm, ShapeForm, typed, nothing, any, parameter, of}
use Rattle.kt_types_tree.specs.Hierarchy.{HierarchyForm}
use Rattle.kt_types.specs.Null.{IsWithoutNull}
use Rattle.kt_check_rules.specs.Kinds.{allows_null, bound_or_any, may_be_null, present_type}
use Rattle.kt_check_deciding.specs.Subtypes.{bound_then, under_in, is_below}
use Rattle.kt_check_deciding.specs.Laws.{PresentIsWithoutNull}
use Rattle.kt_check_deciding.proofs.Subtypes.{below_is}
use Rattle.kt_check_deciding.proofs.Tests.{not_both}

module _ (h : HierarchyForm) where
  -- a type that may be null isn't below `Any`
  opposite : (k : ℕ) (n : Bool) (s : ShapeForm) →
      under_in h k n s false any ≡ not (allows_null h.bounds k (typed n s))
  unfolding under_in
  opposite k true nothing = refl
  opposite k true any = refl
  opposite k true (of d all) = refl
  opposite zero true (parameter row place) = refl
  opposite (suc k) true (parameter row place) = by_bound (slice_get h.bounds row) (λ s. opposite k true s)
    where
      by_bound : (o : Option TypeForm) → ((s : ShapeForm) → under_in h k true s false any ≡ false) →
          bound_then o (λ j s. under_in h k (true || j) s false any) ≡ false
      by_bound None next = refl
      by_bound (Some (typed j s)) next = next s
  opposite k false nothing = refl
  opposite k false any = refl
  opposite k false (of d all) = refl
  opposite zero false (parameter row place) = refl
  opposite (suc k) false (parameter row place) = by_bound (slice_get h.bounds row) (λ j s. opposite k j s)
    where
      by_bound : (o : Option TypeForm) →
          ((j : Bool) (s : ShapeForm) → under_in h k j s false any ≡ not (allows_null h.bounds k (typed j s))) →
          bound_then o (λ j s. under_in h k (false || j) s false any)
          ≡ not (allows_null h.bounds k (bound_or_any o))
      by_bound None next = refl
      by_bound (Some (typed j s)) next = next j s

  below_any : (s : ShapeForm) →
      is_below h (typed false s) (typed false any) ≡ not (may_be_null h (typed false s))
  unfolding is_below
  below_any s = opposite (length h.bounds) false s

pub present_is_without_null : PresentIsWithoutNull
present_is_without_null h ends (typed n s) = by_flag (may_be_null h (typed false s)) refl
  where
    by_flag : (b : Bool) → may_be_null h (typed false s) ≡ b →
        IsWithoutNull h (typed n s) (if b then typed false any else typed false s)
    by_flag true e =
        inr (
          (λ p. not_both (is_below h (typed false s) (typed false any))
              ((below_is h ends (typed false s) (typed false any)).1 p) (below_any h s ∙ ap not e)),
          refl,
        )
    by_flag false e =
        inl ((below_is h ends (typed false s) (typed false any)).0 (below_any h s ∙ ap not e), refl)
