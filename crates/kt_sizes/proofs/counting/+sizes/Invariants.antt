use Rattle.std.proofs.Common.{◌≡◌, ℕ, map, drop}
use Rattle.kt_typed.specs.Bodies.{expression_form, statement_form, part_form, condition_form, entry_form, catch_form, expressions_of, statements_of, parts_of, conditions_of, entries_of, catches_of}
use Rattle.kt_sizes.specs.Counting as spec
use Rattle.kt_sizes.specs.Capped.{cap, Partly}
use Rattle.kt_sizes.proofs.counting.+sizes.Given as goal

abbrev pub invariant-entries_sizes-loop-entry : goal.invariant-entries_sizes-loop-entry
invariant-entries_sizes-loop-entry l =
    Partly l.whole (spec.sizes_of_entries (entries_of (map entry_form (drop l.entry-index l.entries)))) (spec.sizes_of_entries (entries_of (map entry_form l.entries)))

abbrev pub invariant-conditions_sizes-loop-condition : goal.invariant-conditions_sizes-loop-condition
invariant-conditions_sizes-loop-condition l =
    Partly l.whole (spec.sizes_of_conditions (conditions_of (map condition_form (drop l.condition-index l.conditions)))) (spec.sizes_of_conditions (conditions_of (map condition_form l.conditions)))

abbrev pub invariant-catches_sizes-loop-each : goal.invariant-catches_sizes-loop-each
invariant-catches_sizes-loop-each l =
    Partly l.whole (spec.sizes_of_catches (catches_of (map catch_form (drop l.each-index l.catches)))) (spec.sizes_of_catches (catches_of (map catch_form l.catches)))

abbrev pub invariant-statements_sizes-loop-statement : goal.invariant-statements_sizes-loop-statement
invariant-statements_sizes-loop-statement l =
    Partly l.whole (spec.sizes_of_statements (statements_of (map statement_form (drop l.statement-index l.statements)))) (spec.sizes_of_statements (statements_of (map statement_form l.statements)))

abbrev pub invariant-all_sizes-loop-argument : goal.invariant-all_sizes-loop-argument
invariant-all_sizes-loop-argument l =
    (w : ℕ)
    × (l.waits ≡ cap w)
    × Partly l.whole (spec.sizes_of_all w (expressions_of (map expression_form (drop l.argument-index l.arguments))))
    (spec.sizes_of_all l.waiting (expressions_of (map expression_form l.arguments)))

abbrev pub invariant-parts_sizes-loop-part : goal.invariant-parts_sizes-loop-part
invariant-parts_sizes-loop-part l =
    (w : ℕ)
    × (l.waits ≡ cap w)
    × Partly l.whole (spec.sizes_of_parts l.several w (parts_of (map part_form (drop l.part-index l.parts))))
    (spec.sizes_of_parts l.several 0 (parts_of (map part_form l.parts)))
