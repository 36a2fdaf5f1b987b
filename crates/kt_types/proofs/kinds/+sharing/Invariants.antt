use Rattle.std.proofs.Common.{◌≡◌, map, drop}
use Rattle.kt_types_tree.specs.Hierarchy.{hierarchy_form}
use Rattle.kt_types_tree.specs.Types.{type_form, forms_of}
use Rattle.kt_types.specs.Kinds.{all_shareable}
use Rattle.kt_types.proofs.kinds.+sharing.Given as goal

abbrev pub invariant-are_shareable-loop-t : goal.invariant-are_shareable-loop-t
invariant-are_shareable-loop-t l = all_shareable (hierarchy_form l.h) l.plain l.parameters (forms_of (map type_form l.all)) ≡ all_shareable (hierarchy_form l.h) l.plain l.parameters (forms_of (map type_form (drop l.t-index l.all)))
