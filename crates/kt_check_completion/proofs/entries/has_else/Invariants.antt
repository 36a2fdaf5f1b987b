use Rattle.std.proofs.Common.{◌≡◌, map, drop}
use Rattle.kt_typed.specs.Bodies.{entry_form, entries_of}
use Rattle.kt_check_rules.specs.Completion.{has_else}
use Rattle.kt_check_completion.proofs.entries.has_else.Given as goal

abbrev pub invariant-loop-each : goal.invariant-loop-each
invariant-loop-each l =
    has_else (entries_of (map entry_form l.entries))
    ≡ has_else (entries_of (map entry_form (drop l.each-index l.entries)))
