-- A type parameter is erased as its bound, with one step fewer.
use Rattle.std.specs.Prelude.{ℕ, zero, suc, Bool, true, false, List, ◌-◌, ◌≤◌, ◌≡◌, Option, Some, None, slice_get, refl}
use Rattle.std.proofs.Common.{arith, ap, sym, ◌∙◌}
use Rattle.kt_types_tree.specs.declared.types.TypeConstructor.{TypeConstructor}
use Rattle.kt_types_tree.specs.declared.types.TypeConstructor.TheVariants as constructor
use Rattle.kt_types_tree.specs.Types.{TypeForm, TypeForms, typed, nothing, any, parameter, of}
use Rattle.kt_decls_rules.specs.Erasure.{Erased, primitive, object, boxed, erased, erased_result, erased_within, or_object}
use Rattle.kt_decls_inherited.specs.Erased.{erased_of, gives_nothing}

module _ (bounds : List TypeForm) where
  pub no_step : (k : ℕ) (t : TypeForm) → k ≡ 0 → object ≡ erased_within bounds k t
  no_step zero t e = refl
  no_step (suc k) t e = absurd (omega arith)

  pub at_nothing : (k : ℕ) (n : Bool) → object ≡ erased_within bounds k (typed n nothing)
  at_nothing zero n = refl
  at_nothing (suc k) n = refl

  pub at_any : (k : ℕ) (n : Bool) → object ≡ erased_within bounds k (typed n any)
  at_any zero n = refl
  at_any (suc k) n = refl

  pub no_bound : (k row place : ℕ) (n : Bool) → slice_get bounds row ≡ None → object ≡ erased_within bounds k (typed n (parameter row place))
  no_bound zero row place n e = refl
  no_bound (suc k) row place n e = ap (or_object (erased_within bounds k)) (sym e)

  pub one_bound : (k row place : ℕ) (n : Bool) (b : TypeForm) (e : Erased) → 1 ≤ k → slice_get bounds row ≡ Some b → e ≡ boxed (erased_within bounds (k - 1) b) → e ≡ erased_within bounds k (typed n (parameter row place))
  one_bound zero row place n b e more is same = absurd (omega arith)
  one_bound (suc k) row place n b e more is same =
      let one : suc k - 1 ≡ k = omega arith in
      same ∙ (ap (λ (j : ℕ). boxed (erased_within bounds j b)) one ∙ ap (or_object (erased_within bounds k)) (sym is))

  pub at_class : (k : ℕ) (n : Bool) (c : TypeConstructor) (ts : TypeForms) → 1 ≤ k → erased_of n c ts ≡ erased_within bounds k (typed n (of c ts))
  at_class zero n c ts more = absurd (omega arith)
  at_class (suc k) true c ts more = refl
  at_class (suc k) false c ts more = refl

  pub unit_result : (t : TypeForm) → gives_nothing t ≡ true → primitive constructor.Unit ≡ erased_result bounds t
  unit_result (typed true s) e = absurd cc
  unit_result (typed false nothing) e = absurd cc
  unit_result (typed false any) e = absurd cc
  unit_result (typed false (parameter row place)) e = absurd cc
  unit_result (typed false (of constructor.Unit ts)) e = refl
  unit_result (typed false (of _ ts)) e = absurd cc

  pub other_result : (t : TypeForm) → gives_nothing t ≡ false → erased bounds t ≡ erased_result bounds t
  other_result (typed true s) e = refl
  other_result (typed false nothing) e = refl
  other_result (typed false any) e = refl
  other_result (typed false (parameter row place)) e = refl
  other_result (typed false (of constructor.Unit ts)) e = absurd cc
  other_result (typed false (of _ ts)) e = refl
