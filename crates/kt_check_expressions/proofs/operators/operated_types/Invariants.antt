use Rattle.std.proofs.Common.{◌≡◌, map, drop}
use Rattle.kt_types_tree.specs.Hierarchy.{hierarchy_form}
use Rattle.kt_types_tree.specs.Types.{type_form}
use Rattle.kt_check_rules.specs.Choices.{first_some, pairs}
use Rattle.kt_check_expressions.specs.Types.{operated_pair}
use Rattle.kt_check_expressions.proofs.operators.operated_types.Given as goal

abbrev pub invariant-loop-each : goal.invariant-loop-each
invariant-loop-each l =
    first_some (operated_pair (hierarchy_form l.h) l.operator) (pairs (map type_form l.lefts) (map type_form l.rights))
    ≡ first_some (operated_pair (hierarchy_form l.h) l.operator)
    (pairs (map type_form (drop l.each-index l.lefts)) (map type_form l.rights))
