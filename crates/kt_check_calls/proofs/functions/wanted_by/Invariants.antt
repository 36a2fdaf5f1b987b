use Rattle.std.proofs.Common.{◌≡◌, ◌++◌, map, drop}
use Rattle.kt_typed.specs.Headers.{parameter_form}
use Rattle.kt_check_rules.specs.Calls.{wanted_by}
use Rattle.kt_check_calls.specs.Targets.{wanted_form}
use Rattle.kt_check_calls.proofs.functions.wanted_by.Given as goal

abbrev pub invariant-loop-parameter : goal.invariant-loop-parameter
invariant-loop-parameter l =
    map wanted_by (map parameter_form l.parameters)
    ≡ map wanted_form l.wanted ++ map wanted_by (map parameter_form (drop l.parameter-index l.parameters))
