use Rattle.std.proofs.Common.{◌≡◌, map, drop}
use Rattle.std.specs.Prelude.{find}
use Rattle.kt_types_tree.specs.Hierarchy.{hierarchy_form}
use Rattle.kt_types_tree.specs.Types.{type_form}
use Rattle.kt_check_deciding.specs.Subtypes.{is_below}
use Rattle.kt_check_expressions.proofs.choosing.first_below.Given as goal

abbrev pub invariant-loop-each : goal.invariant-loop-each
invariant-loop-each l =
    find (λ s. is_below (hierarchy_form l.h) s (type_form l.t)) (map type_form l.types)
    ≡ find (λ s. is_below (hierarchy_form l.h) s (type_form l.t)) (map type_form (drop l.each-index l.types))
