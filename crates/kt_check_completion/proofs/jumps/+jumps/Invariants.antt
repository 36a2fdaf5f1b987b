use Rattle.std.proofs.Common.{◌≡◌, map, drop}
use Rattle.kt_typed.specs.Bodies.{catch_form, catches_of, condition_form, conditions_of, entries_of, entry_form, expression_form, expressions_of, part_form, parts_of, statement_form, statements_of}
use Rattle.kt_check_rules.specs.Completion as spec
use Rattle.kt_check_completion.proofs.jumps.+jumps.Given as goal

abbrev pub invariant-jumps_in_all-loop-each : goal.invariant-jumps_in_all-loop-each
invariant-jumps_in_all-loop-each l =
    spec.jumps_in_all l.breaks (expressions_of (map expression_form l.arguments))
    ≡ spec.jumps_in_all l.breaks (expressions_of (map expression_form (drop l.each-index l.arguments)))

abbrev pub invariant-jumps_in_parts-loop-each : goal.invariant-jumps_in_parts-loop-each
invariant-jumps_in_parts-loop-each l =
    spec.jumps_in_parts l.breaks (parts_of (map part_form l.parts))
    ≡ spec.jumps_in_parts l.breaks (parts_of (map part_form (drop l.each-index l.parts)))

abbrev pub invariant-jumps_in_entries-loop-each : goal.invariant-jumps_in_entries-loop-each
invariant-jumps_in_entries-loop-each l =
    spec.jumps_in_entries l.breaks (entries_of (map entry_form l.entries))
    ≡ spec.jumps_in_entries l.breaks (entries_of (map entry_form (drop l.each-index l.entries)))

abbrev pub invariant-jumps_in_conditions-loop-each : goal.invariant-jumps_in_conditions-loop-each
invariant-jumps_in_conditions-loop-each l =
    spec.jumps_in_conditions l.breaks (conditions_of (map condition_form l.conditions))
    ≡ spec.jumps_in_conditions l.breaks (conditions_of (map condition_form (drop l.each-index l.conditions)))

abbrev pub invariant-jumps_in_catches-loop-each : goal.invariant-jumps_in_catches-loop-each
invariant-jumps_in_catches-loop-each l =
    spec.jumps_in_catches l.breaks (catches_of (map catch_form l.catches))
    ≡ spec.jumps_in_catches l.breaks (catches_of (map catch_form (drop l.each-index l.catches)))

abbrev pub invariant-jumps_in_statements-loop-each : goal.invariant-jumps_in_statements-loop-each
invariant-jumps_in_statements-loop-each l =
    spec.jumps_in_statements l.breaks (statements_of (map statement_form l.statements))
    ≡ spec.jumps_in_statements l.breaks (statements_of (map statement_form (drop l.each-index l.statements)))
