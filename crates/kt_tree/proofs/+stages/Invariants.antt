use Rattle.std.proofs.Common.{◌≡◌, max, map, drop}
use Rattle.kt_tree.specs.Bodies.{
  expression_tree,
  statement_tree,
  part_tree,
  condition_tree,
  entry_tree,
  catch_tree,
  expressions_of,
  statements_of,
  parts_of,
  conditions_of,
  entries_of,
  catches_of,
}
use Rattle.kt_tree.specs.Stages.{
  expressions_stage,
  statements_stage,
  parts_stage,
  conditions_stage,
  entries_stage,
  catches_stage,
}
use Rattle.kt_tree.proofs.+stages.Given as goal

abbrev pub invariant-stages::expressions_stage-loop-each : goal.invariant-stages::expressions_stage-loop-each
invariant-stages::expressions_stage-loop-each l =
    max l.most (expressions_stage (expressions_of (map expression_tree (drop l.each-index l.expressions))))
    ≡ expressions_stage (expressions_of (map expression_tree l.expressions))

abbrev pub invariant-stages::parts_stage-loop-part : goal.invariant-stages::parts_stage-loop-part
invariant-stages::parts_stage-loop-part l =
    max l.most (parts_stage (parts_of (map part_tree (drop l.part-index l.parts))))
    ≡ parts_stage (parts_of (map part_tree l.parts))

abbrev pub invariant-stages::entries_stage-loop-entry : goal.invariant-stages::entries_stage-loop-entry
invariant-stages::entries_stage-loop-entry l =
    max l.most (entries_stage (entries_of (map entry_tree (drop l.entry-index l.entries))))
    ≡ entries_stage (entries_of (map entry_tree l.entries))

abbrev pub invariant-stages::conditions_stage-loop-condition : goal.invariant-stages::conditions_stage-loop-condition
invariant-stages::conditions_stage-loop-condition l =
    max l.most (conditions_stage (conditions_of (map condition_tree (drop l.condition-index l.conditions))))
    ≡ conditions_stage (conditions_of (map condition_tree l.conditions))

abbrev pub invariant-stages::catches_stage-loop-catch : goal.invariant-stages::catches_stage-loop-catch
invariant-stages::catches_stage-loop-catch l =
    max l.most (catches_stage (catches_of (map catch_tree (drop l.catch-index l.catches))))
    ≡ catches_stage (catches_of (map catch_tree l.catches))

abbrev pub invariant-bodies::Block::stage-loop-statement : goal.invariant-bodies::Block::stage-loop-statement
invariant-bodies::Block::stage-loop-statement l =
    max l.most (statements_stage (statements_of (map statement_tree (drop l.statement-index l.statement-items))))
    ≡ statements_stage (statements_of (map statement_tree l.statement-items))
