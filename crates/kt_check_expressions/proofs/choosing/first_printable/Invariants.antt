use Rattle.std.proofs.Common.{◌≡◌, map, drop}
use Rattle.std.specs.Prelude.{find}
use Rattle.kt_types.specs.Kinds.{printable}
use Rattle.kt_types_tree.specs.Hierarchy.{hierarchy_form}
use Rattle.kt_types_tree.specs.Types.{type_form}
use Rattle.kt_check_expressions.proofs.choosing.first_printable.Given as goal

abbrev pub invariant-loop-each : goal.invariant-loop-each
invariant-loop-each l =
    find (printable (hierarchy_form l.h)) (map type_form l.types)
    ≡ find (printable (hierarchy_form l.h)) (map type_form (drop l.each-index l.types))
