use Rattle.kt_types_tree.specs.Hierarchy.{hierarchy_form}
use Rattle.kt_types_tree.proofs.Parts.{yes, no, not_both}
use Rattle.kt_types_tree.proofs.Seen.{seen_nothing, seen_any, seen_parameter, seen_of}
use Rattle.kt_types_order.specs.Climbing.{u_any}
use Rattle.kt_types_order.proofs.Rules.{grows}
use Rattle.kt_types.proofs.Under.{of_not_nothing, of_not_parameter, with_null}
use Rattle.kt_types.proofs.subtyping.is_of_below.Goals as goal

pub returns-then-not-allows : goal.returns-then-not-allows
returns-then-not-allows c = no (λ u. not_both (c.allows.ensures.1 (grows (hierarchy_form c.args.h.now) _ _ _ _ u)) c.if-not-allows.true)

pub returns-in-Nothing : goal.returns-in-Nothing
returns-in-Nothing c = no (λ u. of_not_nothing (hierarchy_form c.args.h.now) _ _ _ _ (rw (c.in-Nothing.is, seen_nothing) at u))

pub returns-in-Any : goal.returns-in-Any
returns-in-Any c = yes (rw (c.in-Any.is, seen_any) (u_any (c.allows.ensures.0 c.if-not-allows.false) tt))

pub returns-in-Parameter : goal.returns-in-Parameter
returns-in-Parameter c = no (λ u. of_not_parameter (hierarchy_form c.args.h.now) _ _ _ _ _ _ (rw (c.in-Parameter.is, seen_parameter) at u))

pub returns-in-Of : goal.returns-in-Of
returns-in-Of c = rw (c.in-Of.is, seen_of) (with_null (hierarchy_form c.args.h.now) _ _ _ _ _ _ _ (c.allows.ensures.0 c.if-not-allows.false) (rw c.as_slice.ensures at c.is_constructed_below.ensures))
