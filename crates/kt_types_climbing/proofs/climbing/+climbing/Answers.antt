use Rattle.std.proofs.Common.{map, refl, subst}
use Rattle.kt_types_tree.specs.Types.{forms_of, type_form}
use Rattle.kt_types_tree.specs.Hierarchy.{hierarchy_form}
use Rattle.kt_types_tree.proofs.Parts.{yes, not_both}
use Rattle.kt_types_order.specs.Graph.{class_graph}
use Rattle.kt_types_climbing.specs.Reading.{layers}
use Rattle.kt_types_climbing.specs.Nodes.{IsClosed, behind_nodes, ahead_weight, node}
use Rattle.kt_types_climbing.proofs.Closed.{met_closed, met_adds_none, none_closed}
use Rattle.kt_types_climbing.proofs.Steps.{nothing_first, rest_weight, first_weight, first_ahead, met_weight, new_weight, is_target, new_is_closed, new_same, both_ways}
use Rattle.kt_types_climbing.proofs.climbing.+climbing.Goals as goal

pub climbs_from-climbs_by-requires : goal.climbs_from-climbs_by-requires
climbs_from-climbs_by-requires t c = (
  rw (← c.decreases, c.in-These.is) (first_weight (class_graph (hierarchy_form c.args.h.now)) c.in-These.supertypes.now c.first-item.result _ _ c.in-len1-up.len_at_least c.first-item.is (c.ahead_of-here.ensures.weight (class_graph (hierarchy_form c.args.h.now)))),
  (c.requires.classes, subst (λ ns. IsClosed (hierarchy_form c.args.h.now) (behind_nodes c.args.behind.now) ns (node c.args.wanted (forms_of (map type_form c.args.others.now)))) (first_ahead (layers c.in-These.environment.now) c.in-These.supertypes.now c.first-item.result _ _ c.in-len1-up.len_at_least c.first-item.is c.ahead_of-here.ensures.nodes) (rw c.in-These.is at c.requires.closed)),
)

pub climbs_from-climbs_from-requires : goal.climbs_from-climbs_from-requires
climbs_from-climbs_from-requires t c = (
  rw (← c.decreases, c.in-These.is) (rest_weight _ (ahead_weight (class_graph (hierarchy_form c.args.h.now)) c.in-These.later.now)),
  (c.requires.classes, rw (c.in-These.is, nothing_first _ c.in-These.supertypes.now _ c.in-empty.len_below) at c.requires.closed),
)

pub climbs_by-returns-then-is_one : goal.climbs_by-returns-then-is_one
climbs_by-returns-then-is_one t c = yes (is_target (hierarchy_form c.args.h.now) _ _ _ (rw c.as_slice-arguments.ensures at (c.is_one.ensures.0 c.if-is_one.true)))

pub climbs_by-climbs_from-requires : goal.climbs_by-climbs_from-requires
climbs_by-climbs_from-requires t c = (
  rw (← c.decreases) (met_weight (class_graph (hierarchy_form c.args.h.now)) _ _ c.requires.classes),
  (c.requires.classes, met_closed (hierarchy_form c.args.h.now) _ _ _ _ _ (rw c.as_slice-arguments.ensures at (c.is_met.ensures.0 c.if-is_met.true)) c.requires.closed),
)

pub climbs_by-returns-then-is_met : goal.climbs_by-returns-then-is_met
climbs_by-returns-then-is_met t c = both_ways (met_adds_none (hierarchy_form c.args.h.now) _ _ _ _ _ (rw c.as_slice-arguments.ensures at (c.is_met.ensures.0 c.if-is_met.true)) c.requires.closed) c.climbs_from.ensures

pub climbs_by-climbs_from-requires-then-is_single_way :
    goal.climbs_by-climbs_from-requires-then-is_single_way
climbs_by-climbs_from-requires-then-is_single_way t c = (
  rw (← c.decreases) (new_weight (hierarchy_form c.args.h.now) _ _ _ c.requires.classes c.supertypes_of.ensures),
  (c.requires.classes, none_closed (hierarchy_form c.args.h.now) _ _ _),
)

pub climbs_by-climbs_from-requires-else-is_single_way :
    goal.climbs_by-climbs_from-requires-else-is_single_way
climbs_by-climbs_from-requires-else-is_single_way t c = (
  rw (← c.decreases) (new_weight (hierarchy_form c.args.h.now) _ _ _ c.requires.classes c.supertypes_of.ensures),
  (c.requires.classes, new_is_closed (hierarchy_form c.args.h.now) _ _ _ _ _ c.as_slice-arguments.ensures _ c.supertypes_of.ensures _ _ (λ e. not_both (c.is_one.ensures.1 e) c.if-is_one.false) c.requires.closed),
)

pub climbs_by-returns-then-is_single_way : goal.climbs_by-returns-then-is_single_way
climbs_by-returns-then-is_single_way t c = both_ways (new_same (hierarchy_form c.args.h.now) _ _ _ _ _ c.as_slice-arguments.ensures _ c.supertypes_of.ensures _ _ refl (λ e. not_both (c.is_one.ensures.1 e) c.if-is_one.false)) c.climbs_from-then-is_single_way.ensures

pub climbs_by-returns-else-is_single_way : goal.climbs_by-returns-else-is_single_way
climbs_by-returns-else-is_single_way t c = both_ways (new_same (hierarchy_form c.args.h.now) _ _ _ _ _ c.as_slice-arguments.ensures _ c.supertypes_of.ensures _ _ refl (λ e. not_both (c.is_one.ensures.1 e) c.if-is_one.false)) c.climbs_from-else-is_single_way.ensures
