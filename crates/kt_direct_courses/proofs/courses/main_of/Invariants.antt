use Rattle.std.proofs.Common.{◌≡◌, map, drop}
use Rattle.std.specs.List.{position_from}
use Rattle.kt_typed.specs.Headers.{function_form}
use Rattle.kt_meaning.specs.Units.{is_main}
use Rattle.kt_direct_courses.proofs.courses.main_of.Given as goal

abbrev pub invariant-loop-f : goal.invariant-loop-f
invariant-loop-f l =
    (l.number ≡ l.f-index)
    × (position_from is_main 0 (map function_form l.functions)
    ≡ position_from is_main l.number (map function_form (drop l.f-index l.functions)))
