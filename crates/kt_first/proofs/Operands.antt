-- What an expression under an operator is seen as.
use Rattle.std.proofs.Common.{◌≡◌, sym, ap, ◌∙◌}
use Rattle.kt_tree.specs.declared.bodies.Expression.{Expression}
use Rattle.kt_tree.specs.declared.bodies.ExpressionKind.{ExpressionKind}
use Rattle.kt_tree.specs.declared.bodies.ExpressionKind.TheVariants as kind
use Rattle.kt_tree.specs.declared.bodies.BinaryOperator.{BinaryOperator}
use Rattle.kt_tree.specs.declared.bodies.ControlStructureBody.TheOpen.{ExpressionKind-F}
use Rattle.kt_tree.specs.declared.bodies.ControlStructureBody.TheFolds.{fold-ExpressionKind, fold-roll-ExpressionKind, fold_out-Expression}
use Rattle.kt_tree.specs.Bodies.{BodyTree, OfKind, OfStatementKind, PartTree, ConditionTree, BlockTree, CatchTree, ExpressionTree, LambdaTree, StatementTree, EntryTree, body_seen, kind_seen, statement_kind_seen, part_seen, condition_seen, block_seen, catch_seen, expression_seen, lambda_seen, statement_seen, entry_seen, expression_tree, binary}

abbrev kind_tree : ExpressionKind → OfKind
kind_tree = fold-ExpressionKind BodyTree OfKind OfStatementKind PartTree ConditionTree BlockTree CatchTree ExpressionTree LambdaTree StatementTree EntryTree body_seen kind_seen statement_kind_seen part_seen condition_seen block_seen catch_seen expression_seen lambda_seen statement_seen entry_seen

kind_is : (x : Expression) → expression_tree x ≡ kind_tree x.kind x.at
kind_is = fold_out-Expression BodyTree OfKind OfStatementKind PartTree ConditionTree BlockTree CatchTree ExpressionTree LambdaTree StatementTree EntryTree body_seen kind_seen statement_kind_seen part_seen condition_seen block_seen catch_seen expression_seen lambda_seen statement_seen entry_seen

binary_kind : (o : BinaryOperator) (left right : Expression) → kind_tree (kind.Binary o left right) ≡ (λ at. binary at o (expression_tree left) (expression_tree right))
binary_kind o left right =
    ap kind_tree (sym (kind.rolls-Binary o left right))
    ∙ fold-roll-ExpressionKind BodyTree OfKind OfStatementKind PartTree ConditionTree BlockTree CatchTree ExpressionTree LambdaTree StatementTree EntryTree body_seen kind_seen statement_kind_seen part_seen condition_seen block_seen catch_seen expression_seen lambda_seen statement_seen entry_seen (ExpressionKind-F.Binary o left right)

-- the operands are those that the code reads
pub binary_tree : (x left right read_left read_right : Expression) (o : BinaryOperator) → x.kind ≡ kind.Binary o left right → read_left ≡ left → read_right ≡ right
    → expression_tree x ≡ binary x.at o (expression_tree read_left) (expression_tree read_right)
binary_tree x left right read_left read_right o is l r =
    kind_is x ∙ ap (λ (k : ExpressionKind). kind_tree k x.at) is ∙ ap (λ (f : OfKind). f x.at) (binary_kind o left right)
    ∙ ap (λ (a : Expression). binary x.at o (expression_tree a) (expression_tree right)) (sym l)
    ∙ ap (λ (b : Expression). binary x.at o (expression_tree read_left) (expression_tree b)) (sym r)
