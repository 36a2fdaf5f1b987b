use Rattle.std.proofs.Common.{◌≡◌, map, drop}
use Rattle.kt_typed.specs.Bodies.{condition_form, conditions_of}
use Rattle.kt_check_rules.specs.Completion.{is_named}
use Rattle.kt_check_completion.specs.Values.{names_value}
use Rattle.kt_check_completion.proofs.entries.conditions_have.Given as goal

abbrev pub invariant-loop-each : goal.invariant-loop-each
invariant-loop-each l =
    is_named (names_value l.value) (conditions_of (map condition_form l.conditions))
    ≡ is_named (names_value l.value) (conditions_of (map condition_form (drop l.each-index l.conditions)))
