-- Expressions, statements and blocks as definitions match on them.
use Rattle.std.specs.Prelude.{ℕ, Bool, List, [], ◌∷◌, Option, Some, None, map}
use Rattle.kt_base.specs.declared.refusals.Pos.{Pos}
use Rattle.kt_tree.specs.declared.bodies.Literal.{Literal}
use Rattle.kt_tree.specs.declared.bodies.PrefixOperator.{PrefixOperator}
use Rattle.kt_tree.specs.declared.bodies.BinaryOperator.{BinaryOperator}
use Rattle.kt_tree.specs.declared.bodies.AssignmentOperator.{AssignmentOperator}
use Rattle.kt_tree.specs.declared.bodies.StepOperator.{StepOperator}
use Rattle.kt_tree.specs.declared.bodies.RangeOperator.{RangeOperator}
use Rattle.kt_tree.specs.declared.bodies.TextPart.{TextPart}
use Rattle.kt_tree.specs.declared.bodies.LambdaParameter.{LambdaParameter}
use Rattle.kt_tree.specs.declared.bodies.ControlStructureBody.{ControlStructureBody}
use Rattle.kt_tree.specs.declared.bodies.StringPart.{StringPart}
use Rattle.kt_tree.specs.declared.bodies.WhenCondition.{WhenCondition}
use Rattle.kt_tree.specs.declared.bodies.Block.{Block}
use Rattle.kt_tree.specs.declared.bodies.CatchBlock.{CatchBlock}
use Rattle.kt_tree.specs.declared.bodies.Expression.{Expression}
use Rattle.kt_tree.specs.declared.bodies.LambdaLiteral.{LambdaLiteral}
use Rattle.kt_tree.specs.declared.bodies.Statement.{Statement}
use Rattle.kt_tree.specs.declared.bodies.WhenEntry.{WhenEntry}
use Rattle.kt_tree.specs.declared.bodies.ControlStructureBody.TheOpen.{
  ControlStructureBody-F,
  ExpressionKind-F,
  StatementKind-F,
  StringPart-F,
  WhenCondition-F,
  Block-F,
  CatchBlock-F,
  Expression-F,
  LambdaLiteral-F,
  Statement-F,
  WhenEntry-F,
}
use Rattle.kt_tree.specs.declared.bodies.ControlStructureBody.TheFolds.{
  fold-ControlStructureBody,
  fold-StringPart,
  fold-WhenCondition,
  fold-Block,
  fold-CatchBlock,
  fold-Expression,
  fold-LambdaLiteral,
  fold-Statement,
  fold-WhenEntry,
}
use Rattle.kt_tree.specs.Types.{TypeTree, type_tree, maybe_type}

-- a parameter of a lambda literal
pub record ParameterTree : Type 0 where
  pub name : List ℕ
  pub annotation : Option TypeTree

abbrev pub parameter_tree : LambdaParameter → ParameterTree
parameter_tree p = record { name = p.name; annotation = maybe_type p.annotation }

mutual
  -- the place of the first token stands first
  pub data ExpressionTree : Type 0 where
    literal : Pos → Literal → ExpressionTree
    template : Pos → PartTrees → ExpressionTree
    name : Pos → List ℕ → ExpressionTree
    this : Pos → ExpressionTree
    parenthesized : Pos → ExpressionTree → ExpressionTree
    lambda : Pos → LambdaTree → ExpressionTree
    prefix : Pos → PrefixOperator → ExpressionTree → ExpressionTree
    binary : Pos → BinaryOperator → ExpressionTree → ExpressionTree → ExpressionTree
    type_check : Pos → ExpressionTree → Bool → TypeTree → ExpressionTree
    cast : Pos → ExpressionTree → Bool → TypeTree → ExpressionTree
    not_null : Pos → ExpressionTree → ExpressionTree
    member : Pos → ExpressionTree → Bool → List ℕ → ExpressionTree
    index : Pos → ExpressionTree → ExpressionTree → ExpressionTree
    -- of a call the place of the first token behind what is called as well
    call : Pos → ExpressionTree → Pos → List TypeTree → ExpressionTrees → ExpressionTree
    if_else : Pos → ExpressionTree → BodyTree → MaybeBody → ExpressionTree
    when : Pos → MaybeExpression → EntryTrees → ExpressionTree
    try_catch : Pos → BlockTree → CatchTrees → MaybeBlock → ExpressionTree
    throw : Pos → ExpressionTree → ExpressionTree
    return : Pos → MaybeExpression → ExpressionTree
    break : Pos → ExpressionTree
    continue : Pos → ExpressionTree

  pub data ExpressionTrees : Type 0 where
    expressions_end : ExpressionTrees
    expression_then : ExpressionTree → ExpressionTrees → ExpressionTrees

  pub data MaybeExpression : Type 0 where
    no_expression : MaybeExpression
    some_expression : ExpressionTree → MaybeExpression

  pub data PartTree : Type 0 where
    text : TextPart → PartTree
    name_part : List ℕ → PartTree
    this_part : PartTree
    hole : ExpressionTree → PartTree

  pub data PartTrees : Type 0 where
    parts_end : PartTrees
    part_then : PartTree → PartTrees → PartTrees

  pub data LambdaTree : Type 0 where
    lambda_of : List ParameterTree → BlockTree → LambdaTree

  pub data EntryTree : Type 0 where
    entry : ConditionTrees → BodyTree → EntryTree

  pub data EntryTrees : Type 0 where
    entries_end : EntryTrees
    entry_then : EntryTree → EntryTrees → EntryTrees

  pub data ConditionTree : Type 0 where
    equals : ExpressionTree → ConditionTree
    of_type : Bool → TypeTree → ConditionTree

  pub data ConditionTrees : Type 0 where
    conditions_end : ConditionTrees
    condition_then : ConditionTree → ConditionTrees → ConditionTrees

  pub data CatchTree : Type 0 where
    catch : List ℕ → TypeTree → BlockTree → CatchTree

  pub data CatchTrees : Type 0 where
    catches_end : CatchTrees
    catch_then : CatchTree → CatchTrees → CatchTrees

  pub data BodyTree : Type 0 where
    braces : BlockTree → BodyTree
    single : StatementTree → BodyTree

  pub data MaybeBody : Type 0 where
    no_body : MaybeBody
    some_body : BodyTree → MaybeBody

  -- the statements, and the place of the brace behind them
  pub data BlockTree : Type 0 where
    block : StatementTrees → Pos → BlockTree

  pub data MaybeBlock : Type 0 where
    no_block : MaybeBlock
    some_block : BlockTree → MaybeBlock

  pub data StatementTree : Type 0 where
    local : Pos → Bool → List ℕ → Option TypeTree → MaybeExpression → StatementTree
    assign : Pos → ExpressionTree → AssignmentOperator → ExpressionTree → StatementTree
    step : Pos → ExpressionTree → StepOperator → StatementTree
    while : Pos → ExpressionTree → BodyTree → StatementTree
    do_while : Pos → BlockTree → ExpressionTree → StatementTree
    for : Pos → List ℕ → ExpressionTree → RangeOperator → ExpressionTree → BodyTree → StatementTree
    evaluate : Pos → ExpressionTree → StatementTree

  pub data StatementTrees : Type 0 where
    statements_end : StatementTrees
    statement_then : StatementTree → StatementTrees → StatementTrees

abbrev pub expressions_of : List ExpressionTree → ExpressionTrees
expressions_of [] = expressions_end
expressions_of (x ∷ xs) = expression_then x (expressions_of xs)

abbrev pub parts_of : List PartTree → PartTrees
parts_of [] = parts_end
parts_of (x ∷ xs) = part_then x (parts_of xs)

abbrev pub entries_of : List EntryTree → EntryTrees
entries_of [] = entries_end
entries_of (x ∷ xs) = entry_then x (entries_of xs)

abbrev pub conditions_of : List ConditionTree → ConditionTrees
conditions_of [] = conditions_end
conditions_of (x ∷ xs) = condition_then x (conditions_of xs)

abbrev pub catches_of : List CatchTree → CatchTrees
catches_of [] = catches_end
catches_of (x ∷ xs) = catch_then x (catches_of xs)

abbrev pub statements_of : List StatementTree → StatementTrees
statements_of [] = statements_end
statements_of (x ∷ xs) = statement_then x (statements_of xs)

abbrev pub maybe_expression : Option ExpressionTree → MaybeExpression
maybe_expression None = no_expression
maybe_expression (Some x) = some_expression x

abbrev pub maybe_body : Option BodyTree → MaybeBody
maybe_body None = no_body
maybe_body (Some x) = some_body x

abbrev pub maybe_block : Option BlockTree → MaybeBlock
maybe_block None = no_block
maybe_block (Some x) = some_block x

-- a kind waits for its place
abbrev pub OfKind : Type 0
OfKind = Pos → ExpressionTree

abbrev pub OfStatementKind : Type 0
OfStatementKind = Pos → StatementTree

-- One node, with each child already seen as its tree.

abbrev pub body_seen :
    ControlStructureBody-F BodyTree OfKind OfStatementKind PartTree ConditionTree BlockTree CatchTree ExpressionTree
    LambdaTree StatementTree EntryTree → BodyTree
body_seen (ControlStructureBody-F.Braces b) = braces b
body_seen (ControlStructureBody-F.Single s) = single s

abbrev pub condition_seen :
    WhenCondition-F BodyTree OfKind OfStatementKind PartTree ConditionTree BlockTree CatchTree ExpressionTree
    LambdaTree StatementTree EntryTree → ConditionTree
condition_seen (WhenCondition-F.Equals e) = equals e
condition_seen (WhenCondition-F.OfType not t) = of_type not (type_tree t)

abbrev pub kind_seen :
    ExpressionKind-F BodyTree OfKind OfStatementKind PartTree ConditionTree BlockTree CatchTree ExpressionTree
    LambdaTree StatementTree EntryTree → OfKind
kind_seen (ExpressionKind-F.Literal l) at = literal at l
kind_seen (ExpressionKind-F.Template ps) at = template at (parts_of ps)
kind_seen (ExpressionKind-F.Name x) at = name at x
kind_seen ExpressionKind-F.This at = this at
kind_seen (ExpressionKind-F.Parenthesized e) at = parenthesized at e
kind_seen (ExpressionKind-F.Lambda l) at = lambda at l
kind_seen (ExpressionKind-F.Prefix o e) at = prefix at o e
kind_seen (ExpressionKind-F.Binary o a b) at = binary at o a b
kind_seen (ExpressionKind-F.TypeCheck e not t) at = type_check at e not (type_tree t)
kind_seen (ExpressionKind-F.Cast e safe t) at = cast at e safe (type_tree t)
kind_seen (ExpressionKind-F.NotNull e) at = not_null at e
kind_seen (ExpressionKind-F.Member e safe x) at = member at e safe x
kind_seen (ExpressionKind-F.Index e i) at = index at e i
kind_seen (ExpressionKind-F.Call f start ts es) at = call at f start (map type_tree ts) (expressions_of es)
kind_seen (ExpressionKind-F.If e b c) at = if_else at e b (maybe_body c)
kind_seen (ExpressionKind-F.When e es) at = when at (maybe_expression e) (entries_of es)
kind_seen (ExpressionKind-F.Try b cs f) at = try_catch at b (catches_of cs) (maybe_block f)
kind_seen (ExpressionKind-F.Throw e) at = throw at e
kind_seen (ExpressionKind-F.Return e) at = return at (maybe_expression e)
kind_seen ExpressionKind-F.Break at = break at
kind_seen ExpressionKind-F.Continue at = continue at

abbrev pub part_seen :
    StringPart-F BodyTree OfKind OfStatementKind PartTree ConditionTree BlockTree CatchTree ExpressionTree LambdaTree
    StatementTree EntryTree → PartTree
part_seen (StringPart-F.Text t) = text t
part_seen (StringPart-F.NamePart x) = name_part x
part_seen StringPart-F.ThisPart = this_part
part_seen (StringPart-F.Hole e) = hole e

abbrev pub statement_kind_seen :
    StatementKind-F BodyTree OfKind OfStatementKind PartTree ConditionTree BlockTree CatchTree ExpressionTree
    LambdaTree StatementTree EntryTree → OfStatementKind
statement_kind_seen (StatementKind-F.Local var x t e) at = local at var x (maybe_type t) (maybe_expression e)
statement_kind_seen (StatementKind-F.Assign e o a) at = assign at e o a
statement_kind_seen (StatementKind-F.Step e o) at = step at e o
statement_kind_seen (StatementKind-F.While e b) at = while at e b
statement_kind_seen (StatementKind-F.DoWhile b e) at = do_while at b e
statement_kind_seen (StatementKind-F.For x a o c b) at = for at x a o c b
statement_kind_seen (StatementKind-F.Evaluate e) at = evaluate at e

abbrev pub block_seen :
    Block-F BodyTree OfKind OfStatementKind PartTree ConditionTree BlockTree CatchTree ExpressionTree LambdaTree
    StatementTree EntryTree → BlockTree
block_seen b = block (statements_of b.statements) b.end

abbrev pub catch_seen :
    CatchBlock-F BodyTree OfKind OfStatementKind PartTree ConditionTree BlockTree CatchTree ExpressionTree LambdaTree
    StatementTree EntryTree → CatchTree
catch_seen c = catch c.name (type_tree c.exception) c.body

abbrev pub entry_seen :
    WhenEntry-F BodyTree OfKind OfStatementKind PartTree ConditionTree BlockTree CatchTree ExpressionTree LambdaTree
    StatementTree EntryTree → EntryTree
entry_seen e = entry (conditions_of e.conditions) e.body

abbrev pub expression_seen :
    Expression-F BodyTree OfKind OfStatementKind PartTree ConditionTree BlockTree CatchTree ExpressionTree LambdaTree
    StatementTree EntryTree → ExpressionTree
expression_seen e = e.kind e.at

abbrev pub lambda_seen :
    LambdaLiteral-F BodyTree OfKind OfStatementKind PartTree ConditionTree BlockTree CatchTree ExpressionTree
    LambdaTree StatementTree EntryTree → LambdaTree
lambda_seen l = lambda_of (map parameter_tree l.parameters) l.body

abbrev pub statement_seen :
    Statement-F BodyTree OfKind OfStatementKind PartTree ConditionTree BlockTree CatchTree ExpressionTree LambdaTree
    StatementTree EntryTree → StatementTree
statement_seen s = s.kind s.at

-- The views.

abbrev pub expression_tree : Expression → ExpressionTree
expression_tree =
    fold-Expression BodyTree OfKind OfStatementKind PartTree ConditionTree BlockTree CatchTree ExpressionTree
    LambdaTree StatementTree EntryTree body_seen kind_seen statement_kind_seen part_seen condition_seen block_seen
    catch_seen expression_seen lambda_seen statement_seen entry_seen

abbrev pub statement_tree : Statement → StatementTree
statement_tree =
    fold-Statement BodyTree OfKind OfStatementKind PartTree ConditionTree BlockTree CatchTree ExpressionTree
    LambdaTree StatementTree EntryTree body_seen kind_seen statement_kind_seen part_seen condition_seen block_seen
    catch_seen expression_seen lambda_seen statement_seen entry_seen

abbrev pub block_tree : Block → BlockTree
block_tree =
    fold-Block BodyTree OfKind OfStatementKind PartTree ConditionTree BlockTree CatchTree ExpressionTree LambdaTree
    StatementTree EntryTree body_seen kind_seen statement_kind_seen part_seen condition_seen block_seen catch_seen
    expression_seen lambda_seen statement_seen entry_seen

abbrev pub body_tree : ControlStructureBody → BodyTree
body_tree =
    fold-ControlStructureBody BodyTree OfKind OfStatementKind PartTree ConditionTree BlockTree CatchTree
    ExpressionTree LambdaTree StatementTree EntryTree body_seen kind_seen statement_kind_seen part_seen condition_seen
    block_seen catch_seen expression_seen lambda_seen statement_seen entry_seen

abbrev pub part_tree : StringPart → PartTree
part_tree =
    fold-StringPart BodyTree OfKind OfStatementKind PartTree ConditionTree BlockTree CatchTree ExpressionTree
    LambdaTree StatementTree EntryTree body_seen kind_seen statement_kind_seen part_seen condition_seen block_seen
    catch_seen expression_seen lambda_seen statement_seen entry_seen

abbrev pub condition_tree : WhenCondition → ConditionTree
condition_tree =
    fold-WhenCondition BodyTree OfKind OfStatementKind PartTree ConditionTree BlockTree CatchTree ExpressionTree
    LambdaTree StatementTree EntryTree body_seen kind_seen statement_kind_seen part_seen condition_seen block_seen
    catch_seen expression_seen lambda_seen statement_seen entry_seen

abbrev pub entry_tree : WhenEntry → EntryTree
entry_tree =
    fold-WhenEntry BodyTree OfKind OfStatementKind PartTree ConditionTree BlockTree CatchTree ExpressionTree
    LambdaTree StatementTree EntryTree body_seen kind_seen statement_kind_seen part_seen condition_seen block_seen
    catch_seen expression_seen lambda_seen statement_seen entry_seen

abbrev pub catch_tree : CatchBlock → CatchTree
catch_tree =
    fold-CatchBlock BodyTree OfKind OfStatementKind PartTree ConditionTree BlockTree CatchTree ExpressionTree
    LambdaTree StatementTree EntryTree body_seen kind_seen statement_kind_seen part_seen condition_seen block_seen
    catch_seen expression_seen lambda_seen statement_seen entry_seen

abbrev pub lambda_tree : LambdaLiteral → LambdaTree
lambda_tree =
    fold-LambdaLiteral BodyTree OfKind OfStatementKind PartTree ConditionTree BlockTree CatchTree ExpressionTree
    LambdaTree StatementTree EntryTree body_seen kind_seen statement_kind_seen part_seen condition_seen block_seen
    catch_seen expression_seen lambda_seen statement_seen entry_seen
