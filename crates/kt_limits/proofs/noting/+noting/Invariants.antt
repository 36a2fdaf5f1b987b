use Rattle.std.proofs.Common.{map, drop}
use Rattle.kt_typed.specs.Bodies.{expression_form, statement_form, part_form, condition_form, entry_form, catch_form, expressions_of, statements_of, parts_of, conditions_of, entries_of, catches_of}
use Rattle.kt_limits.specs.Noted as spec
use Rattle.kt_limits.specs.Noting.{Partly}
use Rattle.kt_limits.proofs.noting.+noting.Given as goal

abbrev pub invariant-all_notes-loop-argument : goal.invariant-all_notes-loop-argument
invariant-all_notes-loop-argument l =
    Partly l.whole (spec.noted_in_all (expressions_of (map expression_form (drop l.argument-index l.arguments)))) (spec.noted_in_all (expressions_of (map expression_form l.arguments)))

abbrev pub invariant-parts_notes-loop-part : goal.invariant-parts_notes-loop-part
invariant-parts_notes-loop-part l =
    Partly l.whole (spec.noted_in_parts (parts_of (map part_form (drop l.part-index l.parts)))) (spec.noted_in_parts (parts_of (map part_form l.parts)))

abbrev pub invariant-entries_notes-loop-entry : goal.invariant-entries_notes-loop-entry
invariant-entries_notes-loop-entry l =
    Partly l.whole (spec.noted_in_entries (entries_of (map entry_form (drop l.entry-index l.entries)))) (spec.noted_in_entries (entries_of (map entry_form l.entries)))

abbrev pub invariant-conditions_notes-loop-condition : goal.invariant-conditions_notes-loop-condition
invariant-conditions_notes-loop-condition l =
    Partly l.whole (spec.noted_in_conditions (conditions_of (map condition_form (drop l.condition-index l.conditions)))) (spec.noted_in_conditions (conditions_of (map condition_form l.conditions)))

abbrev pub invariant-catches_notes-loop-each : goal.invariant-catches_notes-loop-each
invariant-catches_notes-loop-each l =
    Partly l.whole (spec.noted_in_catches (catches_of (map catch_form (drop l.each-index l.catches)))) (spec.noted_in_catches (catches_of (map catch_form l.catches)))

abbrev pub invariant-statements_notes-loop-statement : goal.invariant-statements_notes-loop-statement
invariant-statements_notes-loop-statement l =
    Partly l.whole (spec.noted_in_statements (statements_of (map statement_form (drop l.statement-index l.statements)))) (spec.noted_in_statements (statements_of (map statement_form l.statements)))
