use Rattle.std.proofs.Common.{◌≡◌, map, drop}
use Rattle.kt_flow.specs.Facts as spec
use Rattle.kt_types_tree.specs.Types.{type_form}
use Rattle.kt_flow.proofs.facts.has_type.Given as goal

abbrev pub invariant-loop-each : goal.invariant-loop-each
invariant-loop-each l =
    spec.has_type (type_form l.t) (map type_form (drop l.each-index l.types))
    ≡ spec.has_type (type_form l.t) (map type_form l.types)
