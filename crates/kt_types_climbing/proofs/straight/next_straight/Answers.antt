use Rattle.std.proofs.Common.{subst, ◌<◌}
use Rattle.kt_types_tree.specs.Hierarchy.{hierarchy_form}
use Rattle.kt_types_order.specs.Graph.{class_graph}
use Rattle.kt_types_climbing.specs.Weights.{weight}
use Rattle.kt_types_climbing.proofs.OnlyWays.{onward, lower}
use Rattle.kt_types_climbing.proofs.straight.next_straight.Goals as goal

pub returns-in-Some-clause-onward : goal.returns-in-Some-clause-onward
returns-in-Some-clause-onward c = λ d found. onward (hierarchy_form c.args.h.now) c.args.class c.in-Some.place c.args.wanted c.supertypes_of-supertypes.result.now c.index-supertypes-place.result d c.supertypes_of-supertypes.ensures (c.only_place.ensures.but c.in-Some.place c.in-Some.is) (c.only_place.ensures.within c.in-Some.place c.in-Some.is) c.index-supertypes-place.is (c.plain_class.ensures.class d found) (c.plain_class.ensures.plain d found) c.if-class-wanted.false

pub returns-in-Some-clause-lower : goal.returns-in-Some-clause-lower
returns-in-Some-clause-lower c = λ d found. subst (λ x. weight (class_graph (hierarchy_form c.args.h.now)) x < weight (class_graph (hierarchy_form c.args.h.now)) c.args.class) (c.plain_class.ensures.class d found) (lower (hierarchy_form c.args.h.now) c.args.class c.in-Some.place c.supertypes_of-supertypes.result.now c.index-supertypes-place.result c.requires.classes c.supertypes_of-supertypes.ensures (c.only_place.ensures.within c.in-Some.place c.in-Some.is) c.index-supertypes-place.is)
