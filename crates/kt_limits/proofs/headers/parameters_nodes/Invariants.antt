use Rattle.std.specs.Prelude.{◌≡◌, ◌≤◌, ◌+◌, map, drop}
use Rattle.kt_typed.specs.Headers.{class_parameter_form}
use Rattle.kt_sizes.specs.Capped.{cap}
use Rattle.kt_limits.specs.Parts.{parameters_nodes}
use Rattle.kt_limits.proofs.headers.parameters_nodes.Given as goal

abbrev pub invariant-loop-parameter : goal.invariant-loop-parameter
invariant-loop-parameter l =
    (cap (l.nodes + parameters_nodes (map class_parameter_form (drop l.parameter-index l.parameters)))
    ≡ cap (parameters_nodes (map class_parameter_form l.parameters)))
    × (l.nodes ≤ 18446744073709551615)
