use Rattle.std.proofs.Common.{List, map, false, refl}
use Rattle.kt_typed.specs.declared.bodies.TypedExpression.{TypedExpression}
use Rattle.kt_typed.specs.declared.bodies.TypedPart.{TypedPart}
use Rattle.kt_typed.specs.declared.bodies.TypedEntry.{TypedEntry}
use Rattle.kt_typed.specs.declared.bodies.TypedCondition.{TypedCondition}
use Rattle.kt_typed.specs.declared.bodies.TypedCatch.{TypedCatch}
use Rattle.kt_typed.specs.declared.bodies.TypedStatement.{TypedStatement}
use Rattle.kt_typed.specs.Bodies.{catch_form, catches_of, condition_form, conditions_of, entries_of, entry_form, expression_form, expressions_of, part_form, parts_of, statement_form, statements_of}
use Rattle.kt_typed.specs.Order as order
use Rattle.kt_direct_lambdas.proofs.Taken.{partly_begun, partly_next, partly_all}
use Rattle.kt_direct_lambdas.proofs.taking.+taking.Goals as goal

pub in_all-loop-e-init : goal.in_all-loop-e-init
in_all-loop-e-init t c = partly_begun c.args.n _ _ c.nowhere-any.ensures

pub in_all-loop-e-preserved : goal.in_all-loop-e-preserved
in_all-loop-e-preserved t c =
    partly_next c.args.n (λ (xs : List TypedExpression). order.found_in_all false (expressions_of (map expression_form xs)))
    (λ x. order.found false (expression_form x)) (λ x xs. refl) c.args.all.now c.loop-e.e-index c.e-item.result
    c.loop-e-test.true c.e-item.is c.loop-e.any c.either-any.result _ c.loop-e.invariant
    (λ xs is. c.either-any.ensures xs (order.found false (expression_form c.e-item.result)) is c.in_expression.ensures)

pub in_all-returns : goal.in_all-returns
in_all-returns t c =
    partly_all c.args.n (λ (xs : List TypedExpression). order.found_in_all false (expressions_of (map expression_form xs))) refl c.args.all.now
    c.loop-e.e-index c.loop-e-test.false c.loop-e.any _ c.loop-e.invariant

pub in_parts-loop-part-init : goal.in_parts-loop-part-init
in_parts-loop-part-init t c = partly_begun c.args.n _ _ c.nowhere-any.ensures

pub in_parts-loop-part-preserved : goal.in_parts-loop-part-preserved
in_parts-loop-part-preserved t c =
    partly_next c.args.n (λ (xs : List TypedPart). order.found_in_parts false (parts_of (map part_form xs)))
    (λ x. order.found_in_part false (part_form x)) (λ x xs. refl) c.args.parts.now c.loop-part.part-index c.part-item.result
    c.loop-part-test.true c.part-item.is c.loop-part.any c.either-any.result _ c.loop-part.invariant
    (λ xs is. c.either-any.ensures xs (order.found_in_part false (part_form c.part-item.result)) is c.in_part.ensures)

pub in_parts-returns : goal.in_parts-returns
in_parts-returns t c =
    partly_all c.args.n (λ (xs : List TypedPart). order.found_in_parts false (parts_of (map part_form xs))) refl c.args.parts.now
    c.loop-part.part-index c.loop-part-test.false c.loop-part.any _ c.loop-part.invariant

pub in_entries-loop-entry-init : goal.in_entries-loop-entry-init
in_entries-loop-entry-init t c = partly_begun c.args.n _ _ c.nowhere-any.ensures

pub in_entries-loop-entry-preserved : goal.in_entries-loop-entry-preserved
in_entries-loop-entry-preserved t c =
    partly_next c.args.n (λ (xs : List TypedEntry). order.found_in_entries false (entries_of (map entry_form xs)))
    (λ x. order.found_in_entry false (entry_form x)) (λ x xs. refl) c.args.entries.now c.loop-entry.entry-index c.entry-item.result
    c.loop-entry-test.true c.entry-item.is c.loop-entry.any c.either-any.result _ c.loop-entry.invariant
    (λ xs is. c.either-any.ensures xs (order.found_in_entry false (entry_form c.entry-item.result)) is c.in_entry.ensures)

pub in_entries-returns : goal.in_entries-returns
in_entries-returns t c =
    partly_all c.args.n (λ (xs : List TypedEntry). order.found_in_entries false (entries_of (map entry_form xs))) refl c.args.entries.now
    c.loop-entry.entry-index c.loop-entry-test.false c.loop-entry.any _ c.loop-entry.invariant

pub in_conditions-loop-condition-init : goal.in_conditions-loop-condition-init
in_conditions-loop-condition-init t c = partly_begun c.args.n _ _ c.nowhere-any.ensures

pub in_conditions-loop-condition-preserved : goal.in_conditions-loop-condition-preserved
in_conditions-loop-condition-preserved t c =
    partly_next c.args.n (λ (xs : List TypedCondition). order.found_in_conditions false (conditions_of (map condition_form xs)))
    (λ x. order.found_in_condition false (condition_form x)) (λ x xs. refl) c.args.conditions.now c.loop-condition.condition-index c.condition-item.result
    c.loop-condition-test.true c.condition-item.is c.loop-condition.any c.either-any.result _ c.loop-condition.invariant
    (λ xs is. c.either-any.ensures xs (order.found_in_condition false (condition_form c.condition-item.result)) is c.in_condition.ensures)

pub in_conditions-returns : goal.in_conditions-returns
in_conditions-returns t c =
    partly_all c.args.n (λ (xs : List TypedCondition). order.found_in_conditions false (conditions_of (map condition_form xs))) refl c.args.conditions.now
    c.loop-condition.condition-index c.loop-condition-test.false c.loop-condition.any _ c.loop-condition.invariant

pub in_catches-loop-each-init : goal.in_catches-loop-each-init
in_catches-loop-each-init t c = partly_begun c.args.n _ _ c.nowhere-any.ensures

pub in_catches-loop-each-preserved : goal.in_catches-loop-each-preserved
in_catches-loop-each-preserved t c =
    partly_next c.args.n (λ (xs : List TypedCatch). order.found_in_catches false (catches_of (map catch_form xs)))
    (λ x. order.found_in_catch false (catch_form x)) (λ x xs. refl) c.args.catches.now c.loop-each.each-index c.each-item.result
    c.loop-each-test.true c.each-item.is c.loop-each.any c.either-any.result _ c.loop-each.invariant
    (λ xs is. c.either-any.ensures xs (order.found_in_catch false (catch_form c.each-item.result)) is c.in_catch.ensures)

pub in_catches-returns : goal.in_catches-returns
in_catches-returns t c =
    partly_all c.args.n (λ (xs : List TypedCatch). order.found_in_catches false (catches_of (map catch_form xs))) refl c.args.catches.now
    c.loop-each.each-index c.loop-each-test.false c.loop-each.any _ c.loop-each.invariant

pub in_statements-loop-statement-init : goal.in_statements-loop-statement-init
in_statements-loop-statement-init t c = partly_begun c.args.n _ _ c.nowhere-any.ensures

pub in_statements-loop-statement-preserved : goal.in_statements-loop-statement-preserved
in_statements-loop-statement-preserved t c =
    partly_next c.args.n (λ (xs : List TypedStatement). order.found_in_statements false (statements_of (map statement_form xs)))
    (λ x. order.found_in_statement false (statement_form x)) (λ x xs. refl) c.args.statements.now c.loop-statement.statement-index c.statement-item.result
    c.loop-statement-test.true c.statement-item.is c.loop-statement.any c.either-any.result _ c.loop-statement.invariant
    (λ xs is. c.either-any.ensures xs (order.found_in_statement false (statement_form c.statement-item.result)) is c.in_statement.ensures)

pub in_statements-returns : goal.in_statements-returns
in_statements-returns t c =
    partly_all c.args.n (λ (xs : List TypedStatement). order.found_in_statements false (statements_of (map statement_form xs))) refl c.args.statements.now
    c.loop-statement.statement-index c.loop-statement-test.false c.loop-statement.any _ c.loop-statement.invariant
