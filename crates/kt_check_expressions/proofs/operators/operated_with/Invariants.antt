use Rattle.std.proofs.Common.{◌≡◌, map, drop}
use Rattle.kt_types_tree.specs.Hierarchy.{hierarchy_form}
use Rattle.kt_types_tree.specs.Types.{type_form}
use Rattle.kt_check_rules.specs.Choices.{first_some}
use Rattle.kt_check_expressions.specs.Types.{operated}
use Rattle.kt_check_expressions.proofs.operators.operated_with.Given as goal

abbrev pub invariant-loop-shown : goal.invariant-loop-shown
invariant-loop-shown l =
    first_some (operated (hierarchy_form l.h) l.operator (type_form l.s)) (map type_form l.rights)
    ≡ first_some (operated (hierarchy_form l.h) l.operator (type_form l.s)) (map type_form (drop l.shown-index l.rights))
