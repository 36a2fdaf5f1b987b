use Rattle.kt_types_tree.specs.Hierarchy.{hierarchy_form}
use Rattle.kt_types_order.specs.Graph.{class_graph}
use Rattle.kt_types_climbing.specs.OnlyWays.{LeadsSame}
use Rattle.kt_types_climbing.specs.Weights.{weight}
use Rattle.kt_types_climbing.proofs.straight.straight_up.Given as goal

abbrev pub invariant-loop-next : goal.invariant-loop-next
invariant-loop-next l = LeadsSame (hierarchy_form l.h) l.fn.class l.here l.wanted

abbrev pub decreases-loop-next : goal.decreases-loop-next
decreases-loop-next l = weight (class_graph (hierarchy_form l.h)) l.here
