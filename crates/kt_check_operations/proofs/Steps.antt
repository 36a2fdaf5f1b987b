-- One step from a type parameter to its bound.
use Rattle.std.proofs.Common.{ℕ, zero, suc, List, Option, Some, None, ◌≡◌, ap, ◌∙◌, false, arith}
use Rattle.std.specs.Prelude.{slice_get}
use Rattle.kt_types_tree.specs.Types.{TypeForm, typed, parameter}
use Rattle.kt_check_rules.specs.Kinds.{allows_null, bound_or_any}

pub one_step : (bounds : List TypeForm) (steps j row place : ℕ) (o : Option TypeForm) → steps ≡ suc j →
    slice_get bounds row ≡ o →
    allows_null bounds steps (typed false (parameter row place)) ≡ allows_null bounds j (bound_or_any o)
one_step bounds zero j row place o e f = absurd (omega arith)
one_step bounds (suc i) j row place o e f =
    let same : i ≡ j = omega arith in
    ap (λ p. allows_null bounds i (bound_or_any p)) f ∙ ap (λ k. allows_null bounds k (bound_or_any o)) same
