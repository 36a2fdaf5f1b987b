use Rattle.kt_types_tree.specs.Hierarchy.{hierarchy_form}
use Rattle.kt_types_climbing.proofs.OnlyWays.{by_straight}
use Rattle.kt_types_climbing.proofs.climbing.climbs.Goals as goal

pub returns-in-empty : goal.returns-in-empty
returns-in-empty c = by_straight (hierarchy_form c.args.h.now) _ c.args.class c.straight_up.result c.args.wanted c.args.arguments.now _ c.in-empty.len_below c.straight_up.ensures c.climbs_at.ensures
