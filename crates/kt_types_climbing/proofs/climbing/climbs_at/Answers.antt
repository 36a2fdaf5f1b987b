use Rattle.std.proofs.Common.{refl}
use Rattle.kt_types_tree.specs.Hierarchy.{hierarchy_form}
use Rattle.kt_types_tree.proofs.Parts.{yes, not_both}
use Rattle.kt_types_climbing.proofs.Steps.{at_once, begun, both_ways}
use Rattle.kt_types_climbing.proofs.climbing.climbs_at.Goals as goal

pub returns-then-is_one : goal.returns-then-is_one
returns-then-is_one c = yes (at_once (hierarchy_form c.args.h.now) c.args.class c.args.arguments.now c.args.wanted c.args.others.now (c.is_one.ensures.0 c.if-is_one.true))

pub returns : goal.returns
returns c = both_ways (begun (hierarchy_form c.args.h.now) c.args.class c.args.arguments.now c.args.wanted c.args.others.now _ _ c.supertypes_of.ensures refl (λ e. not_both (c.is_one.ensures.1 e) c.if-is_one.false)) c.climbs_from.ensures
