-- Which texts are programs of the first subset.
use Rattle.std.specs.Prelude.{◌≡◌, ℕ, ◌≤◌, nat_le, Bool, true, false, not, ◌&&◌, ◌||◌, ◌==◌, List, [], ◌∷◌, length, Option, Some, None, option_and_then, pos, codes, if◌then◌else◌}
use Rattle.std.specs.Cmp.Lexicographic.{pointwise}
use Rattle.kt_tree.specs.declared.tokens.Token.{Token}
use Rattle.kt_tree.specs.declared.tokens.Keyword.TheVariants as word
use Rattle.kt_tree.specs.declared.tokens.Sign.TheVariants as sign
use Rattle.kt_tree.specs.declared.bodies.Literal.TheVariants as literal
use Rattle.kt_tree.specs.declared.bodies.BinaryOperator.{BinaryOperator}
use Rattle.kt_tree.specs.declared.bodies.BinaryOperator.TheVariants as operator
use Rattle.kt_tree.specs.declared.declarations.FunctionModifiers.{FunctionModifiers}
use Rattle.kt_tree.specs.Tokens.{is_keyword, is_sign, is_identifier}
use Rattle.kt_tree.specs.Types.{TypeTree}
use Rattle.kt_tree.specs.Bodies as e
use Rattle.kt_tree.specs.Bodies.{ExpressionTree, ExpressionTrees, StatementTree, StatementTrees}
use Rattle.kt_tree.specs.Declarations.{DeclarationTree, function, FunctionTree, FunctionBodyTree, braces, TypeParameterTree, TypedParameterTree}
use Rattle.kt_tree.specs.Levels.{levels}
use Rattle.kt_grammar.specs.Declarations.{IsFileOf}
use Rattle.kt_lexer.specs.Sources.{AreTokensOfSource}
use Rattle.kt_first.specs.Programs.{Operation, sum, difference, product, Expression, number, under, Program, code_of}

-- a number without a suffix, which is at most the greatest 32-bit integer
abbrev pub small_number : Option ℕ → Bool → Option Expression
small_number (Some n) false = if nat_le n 2147483647 then Some (number (pos n)) else None
small_number _ _ = None

-- `+`, `-` and `*` are operations
abbrev pub operation_of : BinaryOperator → Option Operation
operation_of operator.Plus = Some sum
operation_of operator.Minus = Some difference
operation_of operator.Times = Some product
operation_of _ = None

abbrev pub combined : Option Operation → Option Expression → Option Expression → Option Expression
combined (Some o) (Some a) (Some b) = Some (under o a b)
combined _ _ _ = None

-- the expression that a tree is
abbrev pub expression_of : ExpressionTree → Option Expression
expression_of (e.literal at (literal.Number n)) = small_number n.value n.long
expression_of (e.parenthesized at a) = expression_of a
expression_of (e.binary at o a b) = combined (operation_of o) (expression_of a) (expression_of b)
expression_of _ = None

-- one that is printed: at most 100 levels of operators and parentheses stand above its numbers
abbrev pub operand_of : ExpressionTree → Option Expression
operand_of a = if nat_le (levels a) 101 then expression_of a else None

abbrev pub is_named : List ℕ → List ℕ → Bool
is_named = pointwise ◌==◌

-- the name `println`
abbrev pub is_println : ExpressionTree → Bool
is_println (e.name at x) = is_named x (codes "println")
is_println _ = false

-- one argument, and no type arguments
abbrev pub one_argument : List TypeTree → ExpressionTrees → Option ExpressionTree
one_argument [] (e.expression_then a e.expressions_end) = Some a
one_argument _ _ = None

-- the argument of a call of `println`
abbrev pub argument_of : ExpressionTree → Option ExpressionTree
argument_of (e.call at f start ts as') = if is_println f then one_argument ts as' else None
argument_of _ = None

-- what a statement prints
abbrev pub printed_by : StatementTree → Option Expression
printed_by (e.evaluate at a) = option_and_then operand_of (argument_of a)
printed_by _ = None

abbrev pub before : Option Expression → Option Program → Option Program
before (Some a) (Some p) = Some (a ∷ p)
before _ _ = None

-- statements each of which prints
abbrev pub program_of_statements : StatementTrees → Option Program
program_of_statements e.statements_end = Some []
program_of_statements (e.statement_then s ss) = before (printed_by s) (program_of_statements ss)

-- statements in braces
abbrev pub program_of_body : Option FunctionBodyTree → Option Program
program_of_body (Some (braces (e.block ss end))) = program_of_statements ss
program_of_body _ = None

-- nothing stands between `fun` and the name, in the parentheses, and behind them
abbrev pub is_bare : List TypeParameterTree → List TypedParameterTree → Option TypeTree → Bool
is_bare [] [] None = true
is_bare _ _ _ = false

abbrev pub has_modifiers : FunctionModifiers → Bool
has_modifiers m = m.is_override || m.is_open || m.is_abstract || m.is_suspend

-- `fun main()`
abbrev pub is_main : FunctionTree → Bool
is_main f = is_named f.name (codes "main") && not (has_modifiers f.modifiers)
    && is_bare f.type_parameters f.parameters f.result

-- a file whose one declaration is `main`
abbrev pub program_of_file : List DeclarationTree → Option Program
program_of_file (function f ∷ []) = if is_main f then program_of_body f.body else None
program_of_file _ = None

-- `fun`, a name, `(`, `)` and `{` stand first, with no line end before the brace
abbrev pub begins_with_head : List Token → Bool
begins_with_head (a ∷ b ∷ c ∷ d ∷ f ∷ ts) = is_keyword word.Fun a && is_identifier b && is_sign sign.OpenParenthesis c
    && is_sign sign.CloseParenthesis d && is_sign sign.OpenBrace f
begins_with_head _ = false

-- the text is this program of the first subset
pub record IsFirst (text : List ℕ) (p : Program) : Type 0 where
  pub short : length text ≤ 512
  pub tokens : List Token
  pub has_tokens : AreTokensOfSource text tokens
  pub head : begins_with_head tokens ≡ true
  pub file : List DeclarationTree
  pub is_file : IsFileOf tokens file
  pub program : program_of_file file ≡ Some p
  -- so short a text has no more steps
  pub steps : length (code_of p) ≤ 512
