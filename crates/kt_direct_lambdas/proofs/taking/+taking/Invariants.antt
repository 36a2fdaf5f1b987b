use Rattle.std.proofs.Common.{map, drop, false}
use Rattle.kt_typed.specs.Bodies.{catch_form, catches_of, condition_form, conditions_of, entries_of, entry_form, expression_form, expressions_of, part_form, parts_of, statement_form, statements_of}
use Rattle.kt_typed.specs.Order as order
use Rattle.kt_direct_lambdas.specs.Taking.{Partly}
use Rattle.kt_direct_lambdas.proofs.taking.+taking.Given as goal

abbrev pub invariant-in_all-loop-e : goal.invariant-in_all-loop-e
invariant-in_all-loop-e l =
    Partly l.n l.any (order.found_in_all false (expressions_of (map expression_form (drop l.e-index l.all))))
    (order.found_in_all false (expressions_of (map expression_form l.all)))

abbrev pub invariant-in_parts-loop-part : goal.invariant-in_parts-loop-part
invariant-in_parts-loop-part l =
    Partly l.n l.any (order.found_in_parts false (parts_of (map part_form (drop l.part-index l.parts))))
    (order.found_in_parts false (parts_of (map part_form l.parts)))

abbrev pub invariant-in_entries-loop-entry : goal.invariant-in_entries-loop-entry
invariant-in_entries-loop-entry l =
    Partly l.n l.any (order.found_in_entries false (entries_of (map entry_form (drop l.entry-index l.entries))))
    (order.found_in_entries false (entries_of (map entry_form l.entries)))

abbrev pub invariant-in_conditions-loop-condition : goal.invariant-in_conditions-loop-condition
invariant-in_conditions-loop-condition l =
    Partly l.n l.any (order.found_in_conditions false (conditions_of (map condition_form (drop l.condition-index l.conditions))))
    (order.found_in_conditions false (conditions_of (map condition_form l.conditions)))

abbrev pub invariant-in_catches-loop-each : goal.invariant-in_catches-loop-each
invariant-in_catches-loop-each l =
    Partly l.n l.any (order.found_in_catches false (catches_of (map catch_form (drop l.each-index l.catches))))
    (order.found_in_catches false (catches_of (map catch_form l.catches)))

abbrev pub invariant-in_statements-loop-statement : goal.invariant-in_statements-loop-statement
invariant-in_statements-loop-statement l =
    Partly l.n l.any (order.found_in_statements false (statements_of (map statement_form (drop l.statement-index l.statements))))
    (order.found_in_statements false (statements_of (map statement_form l.statements)))
