use Rattle.std.specs.Prelude.{◌≡◌, drop}
use Rattle.std.specs.List.{list_all}
use Rattle.kt_limits.specs.Noting.{is_short}
use Rattle.kt_limits.specs.Parts.{type_parameter_names}
use Rattle.kt_limits.proofs.headers.are_type_parameters_short.Given as goal

abbrev pub invariant-loop-parameter : goal.invariant-loop-parameter
invariant-loop-parameter l =
    list_all is_short (type_parameter_names l.parameters)
    ≡ list_all is_short (type_parameter_names (drop l.parameter-index l.parameters))
