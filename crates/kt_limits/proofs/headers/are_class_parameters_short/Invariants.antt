use Rattle.std.specs.Prelude.{◌≡◌, map, drop}
use Rattle.std.specs.List.{list_all}
use Rattle.kt_typed.specs.Headers.{class_parameter_form}
use Rattle.kt_limits.specs.Noting.{is_short}
use Rattle.kt_limits.proofs.headers.are_class_parameters_short.Given as goal

abbrev pub invariant-loop-parameter : goal.invariant-loop-parameter
invariant-loop-parameter l =
    list_all is_short (map (λ p. p.name) (map class_parameter_form l.parameters))
    ≡ list_all is_short (map (λ p. p.name) (map class_parameter_form (drop l.parameter-index l.parameters)))
