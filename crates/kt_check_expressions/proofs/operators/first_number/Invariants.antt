use Rattle.std.proofs.Common.{◌≡◌, map, drop}
use Rattle.kt_types_tree.specs.Types.{type_form}
use Rattle.kt_check_rules.specs.Choices.{first_some}
use Rattle.kt_check_expressions.specs.Types.{as_number}
use Rattle.kt_check_expressions.proofs.operators.first_number.Given as goal

abbrev pub invariant-loop-each : goal.invariant-loop-each
invariant-loop-each l =
    first_some as_number (map type_form l.candidates)
    ≡ first_some as_number (map type_form (drop l.each-index l.candidates))
