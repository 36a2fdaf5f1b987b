use Rattle.std.proofs.Common.{List, map, refl, ap, ◌∙◌, ◌+◌, min, arith}
use Rattle.kt_typed.specs.declared.bodies.TypedExpression.{TypedExpression}
use Rattle.kt_typed.specs.declared.bodies.TypedPart.{TypedPart}
use Rattle.kt_typed.specs.declared.bodies.TypedEntry.{TypedEntry}
use Rattle.kt_typed.specs.declared.bodies.TypedCondition.{TypedCondition}
use Rattle.kt_typed.specs.declared.bodies.TypedCatch.{TypedCatch}
use Rattle.kt_typed.specs.declared.bodies.TypedStatement.{TypedStatement}
use Rattle.kt_typed.specs.Bodies.{catch_form, catches_of, condition_form, conditions_of, entries_of, entry_form, expression_form, expressions_of, part_form, parts_of, statement_form, statements_of}
use Rattle.kt_sizes.specs.Capped.{capped}
use Rattle.kt_sizes.specs.Counting as spec
use Rattle.kt_sizes.specs.Counting.{◌&◌}
use Rattle.kt_sizes.proofs.Sums.{partly_begun, partly_next, partly_all, cap_next}
use Rattle.kt_sizes.proofs.counting.+sizes.Goals as goal

pub entries_sizes-loop-entry-init : goal.entries_sizes-loop-entry-init
entries_sizes-loop-entry-init t c = partly_begun _ _ c.nothing-whole.ensures

pub entries_sizes-loop-entry-preserved : goal.entries_sizes-loop-entry-preserved
entries_sizes-loop-entry-preserved t c =
    partly_next (λ (xs : List TypedEntry). spec.sizes_of_entries (entries_of (map entry_form xs)))
    (λ (xs : List TypedEntry). spec.sizes_of_entries (entries_of (map entry_form xs)))
    (λ x. spec.sizes_of_entry (entry_form x)) (λ x xs. refl) c.args.entries.now c.loop-entry.entry-index c.entry-item.result
    c.loop-entry-test.true c.entry-item.is c.loop-entry.whole c.beside-whole.result _ c.loop-entry.invariant
    (λ a is. c.beside-whole.ensures a (spec.sizes_of_entry (entry_form c.entry-item.result)) is c.entry_sizes.ensures)

pub entries_sizes-returns : goal.entries_sizes-returns
entries_sizes-returns t c =
    partly_all (λ (xs : List TypedEntry). spec.sizes_of_entries (entries_of (map entry_form xs))) refl c.args.entries.now
    c.loop-entry.entry-index c.loop-entry-test.false c.loop-entry.whole _ c.loop-entry.invariant

pub conditions_sizes-loop-condition-init : goal.conditions_sizes-loop-condition-init
conditions_sizes-loop-condition-init t c = partly_begun _ _ c.nothing-whole.ensures

pub conditions_sizes-loop-condition-preserved : goal.conditions_sizes-loop-condition-preserved
conditions_sizes-loop-condition-preserved t c =
    partly_next (λ (xs : List TypedCondition). spec.sizes_of_conditions (conditions_of (map condition_form xs)))
    (λ (xs : List TypedCondition). spec.sizes_of_conditions (conditions_of (map condition_form xs)))
    (λ x. spec.sizes_of_condition (condition_form x)) (λ x xs. refl) c.args.conditions.now c.loop-condition.condition-index c.condition-item.result
    c.loop-condition-test.true c.condition-item.is c.loop-condition.whole c.beside-whole.result _ c.loop-condition.invariant
    (λ a is. c.beside-whole.ensures a (spec.sizes_of_condition (condition_form c.condition-item.result)) is c.condition_sizes.ensures)

pub conditions_sizes-returns : goal.conditions_sizes-returns
conditions_sizes-returns t c =
    partly_all (λ (xs : List TypedCondition). spec.sizes_of_conditions (conditions_of (map condition_form xs))) refl c.args.conditions.now
    c.loop-condition.condition-index c.loop-condition-test.false c.loop-condition.whole _ c.loop-condition.invariant

pub catches_sizes-loop-each-init : goal.catches_sizes-loop-each-init
catches_sizes-loop-each-init t c = partly_begun _ _ c.nothing-whole.ensures

pub catches_sizes-loop-each-preserved : goal.catches_sizes-loop-each-preserved
catches_sizes-loop-each-preserved t c =
    partly_next (λ (xs : List TypedCatch). spec.sizes_of_catches (catches_of (map catch_form xs)))
    (λ (xs : List TypedCatch). spec.sizes_of_catches (catches_of (map catch_form xs)))
    (λ x. spec.sizes_of_catch (catch_form x)) (λ x xs. refl) c.args.catches.now c.loop-each.each-index c.each-item.result
    c.loop-each-test.true c.each-item.is c.loop-each.whole c.beside-whole.result _ c.loop-each.invariant
    (λ a is. c.beside-whole.ensures a (spec.sizes_of_catch (catch_form c.each-item.result)) is c.catch_sizes.ensures)

pub catches_sizes-returns : goal.catches_sizes-returns
catches_sizes-returns t c =
    partly_all (λ (xs : List TypedCatch). spec.sizes_of_catches (catches_of (map catch_form xs))) refl c.args.catches.now
    c.loop-each.each-index c.loop-each-test.false c.loop-each.whole _ c.loop-each.invariant

pub statements_sizes-loop-statement-init : goal.statements_sizes-loop-statement-init
statements_sizes-loop-statement-init t c = partly_begun _ _ c.nothing-whole.ensures

pub statements_sizes-loop-statement-preserved : goal.statements_sizes-loop-statement-preserved
statements_sizes-loop-statement-preserved t c =
    partly_next (λ (xs : List TypedStatement). spec.sizes_of_statements (statements_of (map statement_form xs)))
    (λ (xs : List TypedStatement). spec.sizes_of_statements (statements_of (map statement_form xs)))
    (λ x. spec.sizes_of_statement (statement_form x)) (λ x xs. refl) c.args.statements.now c.loop-statement.statement-index c.statement-item.result
    c.loop-statement-test.true c.statement-item.is c.loop-statement.whole c.beside-whole.result _ c.loop-statement.invariant
    (λ a is. c.beside-whole.ensures a (spec.sizes_of_statement (statement_form c.statement-item.result)) is c.statement_sizes.ensures)

pub statements_sizes-returns : goal.statements_sizes-returns
statements_sizes-returns t c =
    partly_all (λ (xs : List TypedStatement). spec.sizes_of_statements (statements_of (map statement_form xs))) refl c.args.statements.now
    c.loop-statement.statement-index c.loop-statement-test.false c.loop-statement.whole _ c.loop-statement.invariant

pub all_sizes-loop-argument-init : goal.all_sizes-loop-argument-init
all_sizes-loop-argument-init t c = (c.args.waiting, omega (arith, c.ranges.waiting.fits), partly_begun _ _ c.nothing-whole.ensures)

pub all_sizes-loop-argument-preserved : goal.all_sizes-loop-argument-preserved
all_sizes-loop-argument-preserved t c =
    let w = c.loop-argument.invariant.0 in
    let waits = c.loop-argument.invariant.1 in (
      w + 1,
      c.saturating_add-waits.ensures ∙ (ap (λ n. min (n + 1) 18446744073709551615) waits ∙ cap_next w),
      partly_next (λ (xs : List TypedExpression). spec.sizes_of_all w (expressions_of (map expression_form xs)))
          (λ (xs : List TypedExpression). spec.sizes_of_all (w + 1) (expressions_of (map expression_form xs)))
          (λ x. spec.behind w (spec.sizes (expression_form x))) (λ x xs. refl) c.args.arguments.now
          c.loop-argument.argument-index c.argument-item.result c.loop-argument-test.true c.argument-item.is
          c.loop-argument.whole c.beside-whole.result _ c.loop-argument.invariant.2
          (λ a is. c.beside-whole.ensures a (spec.behind w (spec.sizes (expression_form c.argument-item.result))) is
          (c.behind.ensures (spec.sizes (expression_form c.argument-item.result)) w c.expression_sizes.ensures waits)),
    )

pub all_sizes-returns : goal.all_sizes-returns
all_sizes-returns t c =
    partly_all (λ (xs : List TypedExpression). spec.sizes_of_all c.loop-argument.invariant.0 (expressions_of (map expression_form xs))) refl
    c.args.arguments.now c.loop-argument.argument-index c.loop-argument-test.false c.loop-argument.whole _
    c.loop-argument.invariant.2

pub parts_sizes-loop-part-init : goal.parts_sizes-loop-part-init
parts_sizes-loop-part-init t c = (0, refl, partly_begun _ _ c.nothing-whole.ensures)

pub parts_sizes-loop-part-preserved : goal.parts_sizes-loop-part-preserved
parts_sizes-loop-part-preserved t c =
    let w = c.loop-part.invariant.0 in
    let several = c.has_several-several.result in
    let held = spec.behind w (spec.sizes_of_part (part_form c.part-item.result)) in (
      1,
      refl,
      partly_next (λ (xs : List TypedPart). spec.sizes_of_parts c.has_several-several.result w (parts_of (map part_form xs)))
          (λ (xs : List TypedPart). spec.sizes_of_parts c.has_several-several.result 1 (parts_of (map part_form xs)))
          (λ x. spec.part_node several & spec.behind w (spec.sizes_of_part (part_form x))) (λ x xs. refl) c.args.parts.now
          c.loop-part.part-index c.part-item.result c.loop-part-test.true c.part-item.is
          c.loop-part.whole c.beside-whole.result _ c.loop-part.invariant.2
          (λ a is. c.beside-whole.ensures a (spec.part_node several & held) is
          (c.beside.ensures (spec.part_node several) held c.part_node.ensures
          (c.behind.ensures (spec.sizes_of_part (part_form c.part-item.result)) w c.part_sizes.ensures
          c.loop-part.invariant.1))),
    )

pub parts_sizes-returns : goal.parts_sizes-returns
parts_sizes-returns t c =
    partly_all (λ (xs : List TypedPart). spec.sizes_of_parts c.has_several-several.result c.loop-part.invariant.0 (parts_of (map part_form xs))) refl
    c.args.parts.now c.loop-part.part-index c.loop-part-test.false c.loop-part.whole _ c.loop-part.invariant.2
    ∙ ap (λ b. capped (spec.sizes_of_parts b 0 (parts_of (map part_form c.args.parts.now))))
    c.has_several-several.ensures
