use Rattle.std.proofs.Common.{◌+◌, ◌*◌}
use Rattle.kt_types_tree.specs.Hierarchy.{hierarchy_form}
use Rattle.kt_types_order.specs.Graph.{class_graph}
use Rattle.kt_types_climbing.specs.Nodes.{ahead_weight}
use Rattle.kt_types_climbing.specs.Weights.{weight}
use Rattle.kt_types_climbing.proofs.climbing.+climbing.Given as goal

abbrev pub decreases-climbs_from : goal.decreases-climbs_from
decreases-climbs_from l = 2 * ahead_weight (class_graph (hierarchy_form l.h.now)) l.ahead.now + 1

abbrev pub decreases-climbs_by : goal.decreases-climbs_by
decreases-climbs_by l = 2 * (weight (class_graph (hierarchy_form l.h.now)) l.first.now.class + ahead_weight (class_graph (hierarchy_form l.h.now)) l.rest.now)
