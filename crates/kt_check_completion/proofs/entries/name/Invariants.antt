use Rattle.std.proofs.Common.{◌≡◌, map, drop}
use Rattle.kt_typed.specs.Bodies.{entry_form, entries_of}
use Rattle.kt_check_rules.specs.Completion.{names}
use Rattle.kt_check_completion.specs.Values.{names_value}
use Rattle.kt_check_completion.proofs.entries.name.Given as goal

abbrev pub invariant-loop-each : goal.invariant-loop-each
invariant-loop-each l =
    names (names_value l.value) (entries_of (map entry_form l.entries))
    ≡ names (names_value l.value) (entries_of (map entry_form (drop l.each-index l.entries)))
