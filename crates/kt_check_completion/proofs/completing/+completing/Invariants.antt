use Rattle.std.proofs.Common.{◌≡◌, map, drop}
use Rattle.kt_typed.specs.Bodies.{catch_form, catches_of, entries_of, entry_form, statement_form, statements_of}
use Rattle.kt_typed.specs.Headers.{headers_form}
use Rattle.kt_check_rules.specs.Completion as spec
use Rattle.kt_check_completion.proofs.completing.+completing.Given as goal

abbrev pub invariant-entries_complete-loop-each : goal.invariant-entries_complete-loop-each
invariant-entries_complete-loop-each l =
    spec.entries_complete (headers_form l.h) (entries_of (map entry_form l.entries))
    ≡ spec.entries_complete (headers_form l.h) (entries_of (map entry_form (drop l.each-index l.entries)))

abbrev pub invariant-catches_complete-loop-each : goal.invariant-catches_complete-loop-each
invariant-catches_complete-loop-each l =
    spec.catches_complete (headers_form l.h) (catches_of (map catch_form l.catches))
    ≡ spec.catches_complete (headers_form l.h) (catches_of (map catch_form (drop l.each-index l.catches)))

abbrev pub invariant-statements_complete-loop-each : goal.invariant-statements_complete-loop-each
invariant-statements_complete-loop-each l =
    spec.statements_complete (headers_form l.h) (statements_of (map statement_form l.statements))
    ≡ spec.statements_complete (headers_form l.h) (statements_of (map statement_form (drop l.each-index l.statements)))
