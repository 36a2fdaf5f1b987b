use Rattle.std.proofs.Common.{sym, subst}
use Rattle.std.specs.Prelude.{option_map}
use Rattle.kt_tree.specs.Bodies.{ExpressionTree}
use Rattle.kt_first.specs.Programs.{expression_code}
use Rattle.kt_first.specs.Trees.{expression_of}
use Rattle.kt_first.specs.Answers.{Pushes}
use Rattle.kt_first.proofs.Operands.{binary_tree}
use Rattle.kt_first.proofs.Pushing.{right_pushed}
use Rattle.kt_first.proofs.expressions.+expressions.Goals as goal

pub push_expression-returns-in_ok-push_expression-in-Binary : goal.push_expression-returns-in_ok-push_expression-in-Binary
push_expression-returns-in_ok-push_expression-in-Binary t c =
    subst (λ (tree : ExpressionTree). Pushes c.push_right.result c.args.code.now.items c.push_right.new.code.items (option_map expression_code (expression_of tree)))
    (sym (binary_tree c.args.expression.now _ _ _ _ c.in-Binary.operator c.in-Binary.is c.get-in-Binary.ensures c.get-in-Binary-2.ensures))
    (right_pushed c.push_right.result _ _ _ _ _ _ _ c.in_ok-step-in-Binary.ensures c.in_ok-push_expression-in-Binary.ensures c.push_right.ensures)
