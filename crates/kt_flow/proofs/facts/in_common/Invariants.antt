use Rattle.std.proofs.Common.{◌≡◌, ◌++◌, map, drop, filter}
use Rattle.kt_flow.specs.Facts as spec
use Rattle.kt_types_tree.specs.Types.{type_form}
use Rattle.kt_flow.proofs.facts.in_common.Given as goal

abbrev pub invariant-loop-t : goal.invariant-loop-t
invariant-loop-t l =
    map type_form l.common
    ++ filter (λ t. spec.has_type t (map type_form l.others)) (map type_form (drop l.t-index l.types))
    ≡ filter (λ t. spec.has_type t (map type_form l.others)) (map type_form l.types)
