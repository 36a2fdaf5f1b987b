use Rattle.std.proofs.Common.{◌≡◌, map, drop}
use Rattle.kt_typed.specs.Operators.{capture_form}
use Rattle.kt_meaning.specs.Variables.{captured_all}
use Rattle.kt_direct_values.specs.Forms.{store_form, value_form}
use Rattle.kt_direct_scope.specs.Activation.{here_form}
use Rattle.kt_direct_scope.proofs.Captured.{behind}
use Rattle.kt_direct_scope.proofs.captures.captured_all.Given as goal

abbrev pub invariant-loop-capture : goal.invariant-loop-capture
invariant-loop-capture l =
    captured_all (here_form l.here) (map capture_form l.captures) (store_form l.store)
    ≡ behind (map value_form l.taken)
    (captured_all (here_form l.here) (map capture_form (drop l.capture-index l.captures)) (store_form l.store))
