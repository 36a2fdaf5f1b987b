use Rattle.kt_types_tree.specs.Hierarchy.{hierarchy_form}
use Rattle.kt_types_tree.proofs.Parts.{no}
use Rattle.kt_types.proofs.Under.{same_under, class_under, not_under_none}
use Rattle.kt_types.proofs.subtyping.is_constructed_below.Goals as goal

pub returns-then-is_same_constructor : goal.returns-then-is_same_constructor
returns-then-is_same_constructor c = same_under (hierarchy_form c.args.h.now) c.are_same.result c.args.constructor c.args.other _ _ c.in-None.ensures (c.is_same_constructor.ensures.0 c.if-is_same_constructor.true) c.are_same.ensures

pub returns-in-None-class_of : goal.returns-in-None-class_of
returns-in-None-class_of c = no (not_under_none (hierarchy_form c.args.h.now) c.args.constructor c.args.other c.in-Some.class _ _ c.in-Some.ensures c.in-None-class_of.ensures)

pub returns-in-Some-class_of : goal.returns-in-Some-class_of
returns-in-Some-class_of c = class_under (hierarchy_form c.args.h.now) c.climbs.result c.args.constructor c.args.other c.in-Some.class c.in-Some-class_of.wanted _ _ c.in-Some.ensures c.in-Some-class_of.ensures c.climbs.ensures
