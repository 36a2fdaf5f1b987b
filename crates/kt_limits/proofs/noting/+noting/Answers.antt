use Rattle.std.proofs.Common.{List, map, refl}
use Rattle.kt_typed.specs.declared.bodies.TypedExpression.{TypedExpression}
use Rattle.kt_typed.specs.declared.bodies.TypedPart.{TypedPart}
use Rattle.kt_typed.specs.declared.bodies.TypedEntry.{TypedEntry}
use Rattle.kt_typed.specs.declared.bodies.TypedCondition.{TypedCondition}
use Rattle.kt_typed.specs.declared.bodies.TypedCatch.{TypedCatch}
use Rattle.kt_typed.specs.declared.bodies.TypedStatement.{TypedStatement}
use Rattle.kt_typed.specs.Bodies.{catch_form, catches_of, condition_form, conditions_of, entries_of, entry_form, expression_form, expressions_of, part_form, parts_of, statement_form, statements_of}
use Rattle.kt_limits.specs.Noted as spec
use Rattle.kt_limits.proofs.Noted.{partly_begun, partly_next, partly_all}
use Rattle.kt_limits.proofs.noting.+noting.Goals as goal

pub all_notes-loop-argument-init : goal.all_notes-loop-argument-init
all_notes-loop-argument-init t c = partly_begun _ _ c.nothing-whole.ensures

pub all_notes-loop-argument-preserved : goal.all_notes-loop-argument-preserved
all_notes-loop-argument-preserved t c =
    partly_next (λ (xs : List TypedExpression). spec.noted_in_all (expressions_of (map expression_form xs)))
    (λ x. spec.noted (expression_form x)) (λ x xs. refl) c.args.arguments.now c.loop-argument.argument-index c.argument-item.result
    c.loop-argument-test.true c.argument-item.is c.loop-argument.whole c.beside-whole.result _ c.loop-argument.invariant
    (λ a is. c.beside-whole.ensures a (spec.noted (expression_form c.argument-item.result)) is c.expression_notes.ensures)

pub all_notes-returns : goal.all_notes-returns
all_notes-returns t c =
    partly_all (λ (xs : List TypedExpression). spec.noted_in_all (expressions_of (map expression_form xs))) refl c.args.arguments.now
    c.loop-argument.argument-index c.loop-argument-test.false c.loop-argument.whole _ c.loop-argument.invariant

pub parts_notes-loop-part-init : goal.parts_notes-loop-part-init
parts_notes-loop-part-init t c = partly_begun _ _ c.nothing-whole.ensures

pub parts_notes-loop-part-preserved : goal.parts_notes-loop-part-preserved
parts_notes-loop-part-preserved t c =
    partly_next (λ (xs : List TypedPart). spec.noted_in_parts (parts_of (map part_form xs)))
    (λ x. spec.noted_in_part (part_form x)) (λ x xs. refl) c.args.parts.now c.loop-part.part-index c.part-item.result
    c.loop-part-test.true c.part-item.is c.loop-part.whole c.beside-whole.result _ c.loop-part.invariant
    (λ a is. c.beside-whole.ensures a (spec.noted_in_part (part_form c.part-item.result)) is c.part_notes.ensures)

pub parts_notes-returns : goal.parts_notes-returns
parts_notes-returns t c =
    partly_all (λ (xs : List TypedPart). spec.noted_in_parts (parts_of (map part_form xs))) refl c.args.parts.now
    c.loop-part.part-index c.loop-part-test.false c.loop-part.whole _ c.loop-part.invariant

pub entries_notes-loop-entry-init : goal.entries_notes-loop-entry-init
entries_notes-loop-entry-init t c = partly_begun _ _ c.nothing-whole.ensures

pub entries_notes-loop-entry-preserved : goal.entries_notes-loop-entry-preserved
entries_notes-loop-entry-preserved t c =
    partly_next (λ (xs : List TypedEntry). spec.noted_in_entries (entries_of (map entry_form xs)))
    (λ x. spec.noted_in_entry (entry_form x)) (λ x xs. refl) c.args.entries.now c.loop-entry.entry-index c.entry-item.result
    c.loop-entry-test.true c.entry-item.is c.loop-entry.whole c.beside-whole.result _ c.loop-entry.invariant
    (λ a is. c.beside-whole.ensures a (spec.noted_in_entry (entry_form c.entry-item.result)) is c.entry_notes.ensures)

pub entries_notes-returns : goal.entries_notes-returns
entries_notes-returns t c =
    partly_all (λ (xs : List TypedEntry). spec.noted_in_entries (entries_of (map entry_form xs))) refl c.args.entries.now
    c.loop-entry.entry-index c.loop-entry-test.false c.loop-entry.whole _ c.loop-entry.invariant

pub conditions_notes-loop-condition-init : goal.conditions_notes-loop-condition-init
conditions_notes-loop-condition-init t c = partly_begun _ _ c.nothing-whole.ensures

pub conditions_notes-loop-condition-preserved : goal.conditions_notes-loop-condition-preserved
conditions_notes-loop-condition-preserved t c =
    partly_next (λ (xs : List TypedCondition). spec.noted_in_conditions (conditions_of (map condition_form xs)))
    (λ x. spec.noted_in_condition (condition_form x)) (λ x xs. refl) c.args.conditions.now c.loop-condition.condition-index c.condition-item.result
    c.loop-condition-test.true c.condition-item.is c.loop-condition.whole c.beside-whole.result _ c.loop-condition.invariant
    (λ a is. c.beside-whole.ensures a (spec.noted_in_condition (condition_form c.condition-item.result)) is c.condition_notes.ensures)

pub conditions_notes-returns : goal.conditions_notes-returns
conditions_notes-returns t c =
    partly_all (λ (xs : List TypedCondition). spec.noted_in_conditions (conditions_of (map condition_form xs))) refl c.args.conditions.now
    c.loop-condition.condition-index c.loop-condition-test.false c.loop-condition.whole _ c.loop-condition.invariant

pub catches_notes-loop-each-init : goal.catches_notes-loop-each-init
catches_notes-loop-each-init t c = partly_begun _ _ c.nothing-whole.ensures

pub catches_notes-loop-each-preserved : goal.catches_notes-loop-each-preserved
catches_notes-loop-each-preserved t c =
    partly_next (λ (xs : List TypedCatch). spec.noted_in_catches (catches_of (map catch_form xs)))
    (λ x. spec.noted_in_catch (catch_form x)) (λ x xs. refl) c.args.catches.now c.loop-each.each-index c.each-item.result
    c.loop-each-test.true c.each-item.is c.loop-each.whole c.beside-whole.result _ c.loop-each.invariant
    (λ a is. c.beside-whole.ensures a (spec.noted_in_catch (catch_form c.each-item.result)) is c.catch_notes.ensures)

pub catches_notes-returns : goal.catches_notes-returns
catches_notes-returns t c =
    partly_all (λ (xs : List TypedCatch). spec.noted_in_catches (catches_of (map catch_form xs))) refl c.args.catches.now
    c.loop-each.each-index c.loop-each-test.false c.loop-each.whole _ c.loop-each.invariant

pub statements_notes-loop-statement-init : goal.statements_notes-loop-statement-init
statements_notes-loop-statement-init t c = partly_begun _ _ c.nothing-whole.ensures

pub statements_notes-loop-statement-preserved : goal.statements_notes-loop-statement-preserved
statements_notes-loop-statement-preserved t c =
    partly_next (λ (xs : List TypedStatement). spec.noted_in_statements (statements_of (map statement_form xs)))
    (λ x. spec.noted_in_statement (statement_form x)) (λ x xs. refl) c.args.statements.now c.loop-statement.statement-index c.statement-item.result
    c.loop-statement-test.true c.statement-item.is c.loop-statement.whole c.beside-whole.result _ c.loop-statement.invariant
    (λ a is. c.beside-whole.ensures a (spec.noted_in_statement (statement_form c.statement-item.result)) is c.statement_notes.ensures)

pub statements_notes-returns : goal.statements_notes-returns
statements_notes-returns t c =
    partly_all (λ (xs : List TypedStatement). spec.noted_in_statements (statements_of (map statement_form xs))) refl c.args.statements.now
    c.loop-statement.statement-index c.loop-statement-test.false c.loop-statement.whole _ c.loop-statement.invariant
