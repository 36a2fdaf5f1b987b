use Rattle.std.proofs.Common.{sym, arith, ◌-◌}
use Rattle.kt_types_tree.specs.Hierarchy.{hierarchy_form}
use Rattle.kt_types_tree.proofs.Parts.{yes, no, not_both}
use Rattle.kt_types_tree.proofs.Seen.{seen_nothing, seen_any, seen_of, seen_bound, seen_no_bound}
use Rattle.kt_types.proofs.Under.{nothing_under, any_under, any_not_under}
use Rattle.kt_types.proofs.Chains.{by_none, by_any, by_of, at_once, no_steps, no_bound, one_step}
use Rattle.kt_types.proofs.subtyping.+below.Goals as goal

pub is_parameter_below-returns-then-is_at_once : goal.is_parameter_below-returns-then-is_at_once
is_parameter_below-returns-then-is_at_once t c = yes (at_once (hierarchy_form c.args.h.now) _ _ _ _ _ _ (c.is_at_once.ensures.0 c.if-is_at_once.true))

pub is_parameter_below-returns-in-None : goal.is_parameter_below-returns-in-None
is_parameter_below-returns-in-None t c = no (no_bound (hierarchy_form c.args.h.now) _ _ _ _ _ _ (seen_no_bound c.as_slice.result.now c.args.h.now.bounds c.args.row c.as_slice.ensures (sym c.in-None.ensures)) (λ e. not_both (c.is_at_once.ensures.1 e) c.if-is_at_once.false))

pub is_shape_below-returns-in-Nothing : goal.is_shape_below-returns-in-Nothing
is_shape_below-returns-in-Nothing t c = rw (c.in-Nothing.is, seen_nothing) (by_none (hierarchy_form c.args.h.now) _ _ _ _ _ (nothing_under (hierarchy_form c.args.h.now) _ _ _ _ c.allows.ensures))

pub is_shape_below-returns-then-is_any : goal.is_shape_below-returns-then-is_any
is_shape_below-returns-then-is_any t c = rw (c.in-Any.is, seen_any, c.is_any.ensures.0 c.if-is_any.true) (by_any (hierarchy_form c.args.h.now) _ _ _ _ _ (any_under (hierarchy_form c.args.h.now) _ _ _ c.allows-then-is_any.ensures))

pub is_shape_below-returns-in-Of : goal.is_shape_below-returns-in-Of
is_shape_below-returns-in-Of t c = rw (c.in-Of.is, seen_of) (by_of (hierarchy_form c.args.h.now) _ _ _ _ _ _ _ (rw c.as_slice.ensures at c.is_of_below.ensures))

pub is_shape_below-returns-else-is_any : goal.is_shape_below-returns-else-is_any
is_shape_below-returns-else-is_any t c = rw (c.in-Any.is, seen_any, c.if-is_any.false) (by_any (hierarchy_form c.args.h.now) _ _ _ _ _ (no (any_not_under (hierarchy_form c.args.h.now) _ _ _ (λ e. not_both (c.is_any.ensures.1 e) c.if-is_any.false))))

pub is_parameter_below-returns-then-steps-eq0 : goal.is_parameter_below-returns-then-steps-eq0
is_parameter_below-returns-then-steps-eq0 t c = no (no_steps (hierarchy_form c.args.h.now) _ _ _ _ _ _ (let e = c.if-steps-eq0.true in omega arith) (λ e. not_both (c.is_at_once.ensures.1 e) c.if-is_at_once.false))

pub is_parameter_below-returns-in-Some : goal.is_parameter_below-returns-in-Some
is_parameter_below-returns-in-Some t c = one_step (hierarchy_form c.args.h.now) _ c.args.steps (c.args.steps - 1) _ _ _ _ _ _ _ (let e = c.if-steps-eq0.false in omega arith) (seen_bound c.as_slice.result.now c.args.h.now.bounds c.args.row c.in-Some.bound.now c.as_slice.ensures (sym c.in-Some.ensures)) (λ e. not_both (c.is_at_once.ensures.1 e) c.if-is_at_once.false) (rw c.either.ensures at c.is_shape_below.ensures)
