use Rattle.std.proofs.Common.{◌-◌, None, ◌∙◌, map, refl, sym, arith}
use Rattle.kt_types_tree.specs.Types.{type_form}
use Rattle.kt_types_tree.proofs.Seen.{seen_bound, seen_no_bound}
use Rattle.kt_check_operations.proofs.Steps.{one_step}
use Rattle.kt_check_operations.proofs.nulls.+nulls.Goals as goal

pub bound_allows_null-returns-in-None : goal.bound_allows_null-returns-in-None
bound_allows_null-returns-in-None t c = λ place.
    sym (one_step (map type_form c.args.bounds.now) c.args.steps (c.args.steps - 1) c.args.row place None
    (let e = c.if-steps-eq0.false in omega arith)
    (seen_no_bound c.args.bounds.now c.args.bounds.now c.args.row refl (sym c.in-None.ensures)))

pub bound_allows_null-returns-in-Some : goal.bound_allows_null-returns-in-Some
bound_allows_null-returns-in-Some t c = λ place.
    c.allows_null.ensures
    ∙ sym (one_step (map type_form c.args.bounds.now) c.args.steps (c.args.steps - 1) c.args.row place _
    (let e = c.if-steps-eq0.false in omega arith)
    (seen_bound c.args.bounds.now c.args.bounds.now c.args.row c.in-Some.bound.now refl (sym c.in-Some.ensures)))
