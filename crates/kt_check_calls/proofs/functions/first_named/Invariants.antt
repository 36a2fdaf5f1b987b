use Rattle.std.proofs.Common.{◌≡◌, map, drop}
use Rattle.kt_typed.specs.Headers.{function_form}
use Rattle.kt_check_calls.specs.Lists.{first_named}
use Rattle.kt_check_calls.proofs.functions.first_named.Given as goal

abbrev pub invariant-loop-function : goal.invariant-loop-function
invariant-loop-function l =
    (first_named 0 (map function_form l.functions) l.name l.count
    ≡ first_named l.number (map function_form (drop l.function-index l.functions)) l.name l.count)
    × (l.number ≡ l.function-index)
