use Rattle.std.proofs.Common.{◌≡◌, max, map, drop}
use Rattle.kt_tree.specs.Bodies.{
  expression_tree,
  statement_tree,
  part_tree,
  condition_tree,
  entry_tree,
  catch_tree,
  expressions_of,
  statements_of,
  parts_of,
  conditions_of,
  entries_of,
  catches_of,
}
use Rattle.kt_tree.specs.Levels.{
  counted,
  expressions_levels,
  statements_levels,
  parts_levels,
  conditions_levels,
  entries_levels,
  catches_levels,
}
use Rattle.kt_tree.proofs.+levels.Given as goal

abbrev pub invariant-levels::expressions_levels-loop-each : goal.invariant-levels::expressions_levels-loop-each
invariant-levels::expressions_levels-loop-each l =
    max l.most (counted (expressions_levels (expressions_of (map expression_tree (drop l.each-index l.expressions)))))
    ≡ counted (expressions_levels (expressions_of (map expression_tree l.expressions)))

abbrev pub invariant-levels::parts_levels-loop-part : goal.invariant-levels::parts_levels-loop-part
invariant-levels::parts_levels-loop-part l =
    max l.most (counted (parts_levels (parts_of (map part_tree (drop l.part-index l.parts)))))
    ≡ counted (parts_levels (parts_of (map part_tree l.parts)))

abbrev pub invariant-levels::entries_levels-loop-entry : goal.invariant-levels::entries_levels-loop-entry
invariant-levels::entries_levels-loop-entry l =
    max l.most (counted (entries_levels (entries_of (map entry_tree (drop l.entry-index l.entries)))))
    ≡ counted (entries_levels (entries_of (map entry_tree l.entries)))

abbrev pub invariant-levels::conditions_levels-loop-condition : goal.invariant-levels::conditions_levels-loop-condition
invariant-levels::conditions_levels-loop-condition l =
    max l.most (counted (conditions_levels (conditions_of (map condition_tree (drop l.condition-index l.conditions)))))
    ≡ counted (conditions_levels (conditions_of (map condition_tree l.conditions)))

abbrev pub invariant-levels::catches_levels-loop-catch : goal.invariant-levels::catches_levels-loop-catch
invariant-levels::catches_levels-loop-catch l =
    max l.most (counted (catches_levels (catches_of (map catch_tree (drop l.catch-index l.catches)))))
    ≡ counted (catches_levels (catches_of (map catch_tree l.catches)))

abbrev pub invariant-bodies::Block::levels-loop-statement : goal.invariant-bodies::Block::levels-loop-statement
invariant-bodies::Block::levels-loop-statement l =
    max l.most
    (counted (statements_levels (statements_of (map statement_tree (drop l.statement-index l.statement-items)))))
    ≡ counted (statements_levels (statements_of (map statement_tree l.statement-items)))
