-- The productions of operators and suffixes, over what holds `n` levels: each has `n + 1` itself.
use Rattle.std.specs.Prelude.{ℕ, suc, Bool, List, [], ◌∷◌, ◌++◌, ◌⊎◌}
use Rattle.std.proofs.Common.{inl, inr}
use Rattle.kt_base.specs.declared.refusals.Pos.{Pos}
use Rattle.kt_tree.specs.declared.tokens.Token.{Token}
use Rattle.kt_tree.specs.declared.tokens.Sign.TheVariants as sign
use Rattle.kt_tree.specs.declared.bodies.BinaryOperator.{BinaryOperator}
use Rattle.kt_tree.specs.declared.bodies.PrefixOperator.{PrefixOperator}
use Rattle.kt_tree.specs.Tokens.{is_sign, is_identifier}
use Rattle.kt_tree.specs.Types.{TypeTree}
use Rattle.kt_tree.specs.Bodies as e
use Rattle.kt_tree.specs.Bodies.{ExpressionTree}
use Rattle.kt_grammar.specs.declared.context.Context.{Context}
use Rattle.kt_grammar.specs.Declarations.{outside}
use Rattle.kt_grammar_parsers.specs.Parsers.{Parser, ◌>>=◌, ◌>>◌, pure, token, ahead, attempt_if, where_next}
use Rattle.kt_grammar.specs.Terminals.{name_of, opens_arguments, type_check_of, cast_of}
use Rattle.kt_grammar.specs.Levels.{place}
use Rattle.kt_grammar.specs.Readers.{meant, on_if, lines, maybe_commas, type_parser}
use Rattle.kt_grammar.specs.ExpressionParser as p
use Rattle.kt_grammar.specs.StatementParser.{parsers}
use Rattle.kt_parser_steps.specs.declared.meanings.BinaryLevel.{BinaryLevel}
use Rattle.kt_parser_steps.specs.declared.meanings.BinaryLevel.TheVariants as level
use Rattle.kt_parser_steps.specs.Operators.{member_sign, operator_of}
use Rattle.kt_parser_blocks.specs.declared.below.Precedence.{Precedence}
use Rattle.kt_parser_blocks.specs.declared.below.Precedence.TheVariants as precedence
use Rattle.kt_parser_blocks.specs.Rules.{expression, has_more}

-- what the right operand of an operator is made of
abbrev pub right_operand : BinaryLevel → Precedence
right_operand level.Disjunction = precedence.Conjunction
right_operand level.Conjunction = precedence.Equality
right_operand level.Equality = precedence.Comparison
right_operand level.Comparison = precedence.Test
right_operand level.Elvis = precedence.Infix
right_operand level.Infix = precedence.Additive
right_operand level.Additive = precedence.Multiplicative
right_operand level.Multiplicative = precedence.Cast

-- ---- suffixes

-- a name, behind the sign of a member
abbrev pub member_rest : ExpressionTree → Bool → Parser Token (ExpressionTree ⊎ ExpressionTree)
member_rest a safe = lines >> (token is_identifier >>= (λ x. pure (inl (e.member (place a) a safe (name_of x)))))

-- a member, where there is room for one
abbrev pub member_turn : Bool → ExpressionTree → Parser Token (ExpressionTree ⊎ ExpressionTree)
member_turn allowed a = attempt_if allowed member_sign (λ safe. member_rest a safe.1) (pure (inr a))

abbrev pub type_arguments_of_call : ℕ → Parser Token (List TypeTree × Pos)
type_arguments_of_call n = p.type_arguments_of_call (suc n) (parsers n) outside

module _ (n : ℕ) (at : Context) where
  -- an expression and `]`, behind `[`
  abbrev pub element_rest : ExpressionTree → Parser Token (ExpressionTree ⊎ ExpressionTree)
  element_rest = p.element (suc n) (parsers n) at

  abbrev pub arguments_in_parentheses : Parser Token (List ExpressionTree)
  arguments_in_parentheses = maybe_commas (is_sign sign.CloseParenthesis) ((parsers n).disjunction at)

  abbrev pub lambda_behind : List ExpressionTree → Parser Token (List ExpressionTree)
  lambda_behind es = (parsers n).lambda at >>= (λ l. pure (es ++ l ∷ []))

  -- a lambda behind the arguments in parentheses
  abbrev pub with_lambda : List ExpressionTree → Parser Token (List ExpressionTree)
  with_lambda es = where_next (is_sign sign.OpenBrace) (lambda_behind es) (pure es)

  abbrev pub arguments_rest : Parser Token (List ExpressionTree)
  arguments_rest = p.arguments_rest (suc n) (parsers n) at

  -- the arguments in parentheses, behind `(`, and its place
  abbrev pub placed_arguments : Pos → Parser Token (List ExpressionTree × Pos)
  placed_arguments start = arguments_rest >>= (λ es. pure (es, start))

  abbrev pub lambda_argument : Parser Token (List ExpressionTree × Pos)
  lambda_argument = (parsers n).lambda at >>= (λ l. pure (l ∷ [], place l))

  abbrev pub call_arguments : Parser Token (List ExpressionTree × Pos)
  call_arguments = p.call_parser (suc n) (parsers n) at

  -- a suffix that is no call
  abbrev pub other_suffix_turn : ExpressionTree → Parser Token (ExpressionTree ⊎ ExpressionTree)
  other_suffix_turn a =
      on_if (has_more n a) (is_sign sign.NotNull) (λ _. pure (inl (e.not_null (place a) a)))
      (on_if (has_more n a) (is_sign sign.OpenBracket) (λ _. element_rest a) (member_turn (has_more n a) a))

  -- the arguments of a call, behind its type arguments
  abbrev pub call_rest : ExpressionTree → List TypeTree × Pos → Parser Token (ExpressionTree ⊎ ExpressionTree)
  call_rest = p.call_of (suc n) (parsers n) at

  -- a call without type arguments
  abbrev pub plain_call : ExpressionTree → Parser Token (ExpressionTree ⊎ ExpressionTree)
  plain_call = p.plain_call (suc n) (parsers n) at

  -- a suffix without type arguments
  abbrev pub plain_suffix_turn : ExpressionTree → Parser Token (ExpressionTree ⊎ ExpressionTree)
  plain_suffix_turn a =
      attempt_if (p.has_call (suc n) (parsers n) at a) (ahead opens_arguments) (λ _. plain_call a)
      (other_suffix_turn a)

  abbrev pub suffix_turn : ExpressionTree → Parser Token (ExpressionTree ⊎ ExpressionTree)
  suffix_turn = p.suffix_turn (suc n) (parsers n) at

  abbrev pub postfix : Parser Token ExpressionTree
  postfix = p.postfix (suc n) (parsers n) at

-- ---- operators behind one operand, which are the same in each context

module _ (n : ℕ) where
  abbrev pub cast_rest : ExpressionTree → Bool → Parser Token (ExpressionTree ⊎ ExpressionTree)
  cast_rest a safe = lines >> (type_parser (suc n) >>= (λ t. pure (inl (e.cast (place a) a safe t))))

  abbrev pub cast_turn : ExpressionTree → Parser Token (ExpressionTree ⊎ ExpressionTree)
  cast_turn a = attempt_if (has_more n a) (meant cast_of) (λ safe. cast_rest a safe.1) (pure (inr a))

  -- ('is' | '!is') lines type, behind an operand
  abbrev pub type_check_rest : ExpressionTree → Bool → Parser Token ExpressionTree
  type_check_rest a not = lines >> (type_parser (suc n) >>= (λ t. pure (e.type_check (place a) a not t)))

  abbrev pub type_check_behind : ExpressionTree → Parser Token ExpressionTree
  type_check_behind a = attempt_if (has_more n a) (meant type_check_of) (λ not. type_check_rest a not.1) (pure a)

module _ (n : ℕ) (at : Context) where
  -- ---- operators between two operands

  -- the right operand, behind an operator, and what is made of it
  abbrev pub operand : {A : Type 0} → BinaryLevel → (ExpressionTree → A) → Parser Token A
  operand l make = lines >> (expression (right_operand l) n at >>= (λ b. pure (make b)))

  abbrev pub binary_rest : BinaryLevel → BinaryOperator → ExpressionTree
      → Parser Token (ExpressionTree ⊎ ExpressionTree)
  binary_rest l o a = operand l (λ b. inl (e.binary (place a) o a b))

  -- a turn of a chain of binary operators
  abbrev pub binary_turn : BinaryLevel → ExpressionTree → Parser Token (ExpressionTree ⊎ ExpressionTree)
  binary_turn l a = attempt_if (has_more n a) (operator_of l) (λ o. binary_rest l o.1 a) (pure (inr a))

  -- a comparison operator and its right operand, behind the left one
  abbrev pub comparison_behind : ExpressionTree → Parser Token ExpressionTree
  comparison_behind a =
      attempt_if (has_more n a) (operator_of level.Comparison)
      (λ o. operand level.Comparison (λ b. e.binary (place a) o.1 a b)) (pure a)

  -- ---- the rows, from the one that binds most

  abbrev pub prefix_rest : Token → PrefixOperator → Parser Token ExpressionTree
  prefix_rest t o = (parsers n).prefix at >>= (λ a. pure (e.prefix t.pos o a))

  abbrev pub prefix : Parser Token ExpressionTree
  prefix = p.prefix_parser (suc n) (parsers n) at

  abbrev pub cast : Parser Token ExpressionTree
  cast = p.cast_parser (suc n) (parsers n) at

  abbrev pub multiplicative : Parser Token ExpressionTree
  multiplicative = p.multiplicative_parser (suc n) (parsers n) at

  abbrev pub additive : Parser Token ExpressionTree
  additive = p.additive_parser (suc n) (parsers n) at

  abbrev pub infixed : Parser Token ExpressionTree
  infixed = p.infix_parser (suc n) (parsers n) at

  abbrev pub elvis : Parser Token ExpressionTree
  elvis = p.elvis_parser (suc n) (parsers n) at

  abbrev pub test : Parser Token ExpressionTree
  test = p.test_parser (suc n) (parsers n) at

  abbrev pub comparison : Parser Token ExpressionTree
  comparison = p.comparison_parser (suc n) (parsers n) at

  abbrev pub equality : Parser Token ExpressionTree
  equality = p.equality_parser (suc n) (parsers n) at

  abbrev pub conjunction : Parser Token ExpressionTree
  conjunction = p.conjunction_parser (suc n) (parsers n) at

  abbrev pub disjunction : Parser Token ExpressionTree
  disjunction = p.disjunction_parser (suc n) (parsers n) at

-- an expression over what holds `n` levels
abbrev pub whole_expression : Precedence → ℕ → Context → Parser Token ExpressionTree
whole_expression precedence.Disjunction n at = disjunction n at
whole_expression precedence.Conjunction n at = conjunction n at
whole_expression precedence.Equality n at = equality n at
whole_expression precedence.Comparison n at = comparison n at
whole_expression precedence.Test n at = test n at
whole_expression precedence.Infix n at = infixed n at
whole_expression precedence.Additive n at = additive n at
whole_expression precedence.Multiplicative n at = multiplicative n at
whole_expression precedence.Cast n at = cast n at
whole_expression precedence.Prefix n at = prefix n at
