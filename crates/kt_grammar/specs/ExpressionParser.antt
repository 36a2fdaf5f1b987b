-- Parsers of expressions.
use Rattle.std.specs.Prelude.{
  ℕ,
  ◌+◌,
  Bool,
  true,
  false,
  not,
  nat_lt,
  nat_le,
  List,
  [],
  ◌∷◌,
  ◌++◌,
  Option,
  None,
  Some,
  is_some,
  ◌⊎◌,
}
use Rattle.std.proofs.Common.{inl, inr}
use Rattle.kt_base.specs.declared.refusals.Pos.{Pos}
use Rattle.kt_tree.specs.declared.tokens.Token.{Token}
use Rattle.kt_tree.specs.declared.tokens.Sign.TheVariants as sign
use Rattle.kt_tree.specs.declared.tokens.Keyword.TheVariants as word
use Rattle.kt_tree.specs.declared.tokens.SoftKeyword.TheVariants as soft
use Rattle.kt_tree.specs.declared.bodies.BinaryOperator.{BinaryOperator}
use Rattle.kt_tree.specs.Tokens.{is_keyword, is_sign, is_soft_keyword, is_new_line, is_identifier}
use Rattle.kt_tree.specs.Types.{TypeTree}
use Rattle.kt_tree.specs.Bodies as e
use Rattle.kt_tree.specs.Bodies.{
  ExpressionTree,
  PartTree,
  ParameterTree,
  StatementTree,
  BodyTree,
  BlockTree,
  EntryTree,
  ConditionTree,
  CatchTree,
  expressions_of,
  parts_of,
  entries_of,
  conditions_of,
  catches_of,
  statements_of,
  maybe_expression,
}
use Rattle.kt_tree.specs.Levels.{levels, parts_levels}
use Rattle.kt_grammar_parsers.specs.Parsers.{
  some_levels,
  Parser,
  ◌>>=◌,
  ◌>>◌,
  pure,
  token,
  on,
  attempt,
  attempt_if,
  where_next,
  ahead,
  repeat,
  chain,
}
use Rattle.kt_grammar.specs.Terminals.{
  begins_expression,
  is_no_arrow,
  opens_arguments,
  name_of,
  is_open_quote,
  is_close_quote,
  is_name_part,
  is_this_part,
  is_open_template,
  literal_of,
  text_of,
  disjunction_of,
  conjunction_of,
  equality_of,
  comparison_of,
  elvis_of,
  infix_of,
  additive_of,
  multiplicative_of,
  prefix_of,
  type_check_of,
  cast_of,
  member_of,
}
use Rattle.kt_grammar.specs.Levels.{place, ends_in_name}
use Rattle.kt_grammar.specs.declared.context.Context.{Context}
use Rattle.kt_grammar.specs.Expressions.{in_lambda}
use Rattle.kt_grammar.specs.Readers.{
  refuse,
  meant,
  on_if,
  lines,
  expect,
  maybe,
  commas,
  maybe_commas,
  several_items,
  separated,
  type_parser,
}

-- parsers of what a production may hold
pub record Parsers : Type 0 where
  pub levels : ℕ
  pub disjunction : Context → Parser Token ExpressionTree
  pub conjunction : Context → Parser Token ExpressionTree
  pub equality : Context → Parser Token ExpressionTree
  pub comparison : Context → Parser Token ExpressionTree
  pub test : Context → Parser Token ExpressionTree
  pub infixed : Context → Parser Token ExpressionTree
  pub additive : Context → Parser Token ExpressionTree
  pub multiplicative : Context → Parser Token ExpressionTree
  pub cast : Context → Parser Token ExpressionTree
  pub prefix : Context → Parser Token ExpressionTree
  pub lambda : Context → Parser Token ExpressionTree
  pub statement : Context → Parser Token StatementTree
  pub body : Context → Parser Token BodyTree
  pub part : Context → Parser Token PartTree
  pub parameter : Parser Token ParameterTree
  pub entry : Context → Bool → Parser Token EntryTree
  pub condition : Context → Bool → Parser Token ConditionTree
  pub catch : Context → List ℕ → Parser Token CatchTree

-- a part of a string, where so many levels are left for what it holds
abbrev pub part_of : ℕ → Parser Token ExpressionTree → Parser Token PartTree
part_of left expression = on_if (some_levels left) is_name_part (λ t. pure (e.name_part (name_of t)))
    (on_if (some_levels left) is_this_part (λ _. pure e.this_part)
    (on_if (some_levels left) is_open_template
    (λ _. lines >> (expression >>= (λ a. lines >> (expect sign.CloseBrace >> pure (e.hole a)))))
    (meant text_of >>= (λ t. pure (e.text t.1)))))

abbrev pub parameter_of : ℕ → Parser Token ParameterTree
parameter_of room = token is_identifier
    >>= (λ x. maybe (is_sign sign.Colon) (type_parser room)
    >>= (λ t. pure (record { name = name_of x; annotation = t })))

abbrev pub block_rest : Parser Token StatementTree → Parser Token BlockTree
block_rest statement = separated (is_sign sign.CloseBrace) statement
    >>= (λ b. pure (e.block (statements_of b.0) b.1.pos))

abbrev pub block_of : Parser Token StatementTree → Parser Token BlockTree
block_of statement = expect sign.OpenBrace >> block_rest statement

module _ (room : ℕ) (below : Parsers) (at : Context) where
  abbrev pub deep : Bool
  deep = some_levels below.levels

  abbrev pub has_more : ExpressionTree → Bool
  has_more a = nat_lt (levels a) room

  abbrev pub called : ExpressionTree → Pos → List TypeTree → List ExpressionTree → ExpressionTree
  called f start ts es = e.call (place f) f start ts (expressions_of es)

  abbrev pub has_call : ExpressionTree → Bool
  has_call f = nat_le (levels (called f (place f) [] [])) room

  abbrev pub part_if : Bool → Parser Token PartTree
  part_if true = below.part at
  part_if false = refuse

  abbrev pub next_part : List PartTree → Parser Token PartTree
  next_part [] = part_of below.levels (below.disjunction at)
  next_part (p ∷ ps) = part_if (nat_le (parts_levels (parts_of (p ∷ ps)) + 2) room)

  abbrev pub part_turn : Pos → List PartTree → Parser Token (List PartTree ⊎ ExpressionTree)
  part_turn start ps =
      on is_close_quote (λ _. pure (inr (e.template start (parts_of ps))))
      (next_part ps >>= (λ p. pure (inl (ps ++ p ∷ []))))

  abbrev pub lambda_head : Parser Token (List ParameterTree)
  lambda_head = do
    ps ← several_items (pure tt) below.parameter
    lines
    expect sign.Arrow
    pure ps

  abbrev pub lambda_rest : Token → Parser Token ExpressionTree
  lambda_rest t = do
    lines
    ps ← attempt_if deep lambda_head (λ ps. pure ps) (pure [])
    b ← block_rest (below.statement in_lambda)
    pure (e.lambda t.pos (e.lambda_of ps b))

  abbrev pub lambda_parser : Parser Token ExpressionTree
  lambda_parser = expect sign.OpenBrace >>= lambda_rest

  abbrev pub else_word : Parser Token (Unit {0})
  else_word = on (is_sign sign.Semicolon) (λ _. lines >> token (is_keyword word.Else))
      (lines >> token (is_keyword word.Else)) >> (lines >> ahead is_no_arrow)

  abbrev pub if_rest : Token → Parser Token ExpressionTree
  if_rest t = do
    expect sign.OpenParenthesis
    a ← below.disjunction at
    expect sign.CloseParenthesis
    lines
    b ← below.body at
    attempt else_word (λ _. below.body at >>= (λ c. pure (e.if_else t.pos a b (e.some_body c))))
        (pure (e.if_else t.pos a b e.no_body))

  abbrev pub subject : Parser Token (Option ExpressionTree)
  subject = on_if deep (is_sign sign.OpenParenthesis)
      (λ _. below.disjunction at >>= (λ a. expect sign.CloseParenthesis >> pure (Some a))) (pure None)

  abbrev pub when_rest : Token → Parser Token ExpressionTree
  when_rest t = do
    a ← subject
    lines
    expect sign.OpenBrace
    es ← separated (is_sign sign.CloseBrace) (below.entry at (is_some a))
    pure (e.when t.pos (maybe_expression a) (entries_of es.0))

  abbrev pub catch_head : Parser Token Token
  catch_head = do
    lines
    token (is_soft_keyword soft.Catch)
    expect sign.OpenParenthesis
    x ← token is_identifier
    expect sign.Colon
    pure x

  abbrev pub finally_head : Parser Token Token
  finally_head = do
    lines
    token (is_soft_keyword soft.Finally)
    lines
    expect sign.OpenBrace

  abbrev pub catch_turn : List CatchTree → Parser Token (List CatchTree ⊎ List CatchTree)
  catch_turn cs = attempt_if deep catch_head (λ x. below.catch at (name_of x) >>= (λ c. pure (inl (cs ++ c ∷ []))))
      (pure (inr cs))

  abbrev pub no_finally : Pos → BlockTree → List CatchTree → Parser Token ExpressionTree
  no_finally start b [] = refuse
  no_finally start b (c ∷ cs) = pure (e.try_catch start b (catches_of (c ∷ cs)) e.no_block)

  abbrev pub try_rest : Token → Parser Token ExpressionTree
  try_rest t = do
    lines
    b ← block_of (below.statement at)
    cs ← repeat catch_turn []
    attempt finally_head
        (λ _. block_rest (below.statement at) >>= (λ f. pure (e.try_catch t.pos b (catches_of cs) (e.some_block f))))
        (no_finally t.pos b cs)

  abbrev pub primary : Parser Token ExpressionTree
  primary = on_if deep (is_sign sign.OpenParenthesis)
      (λ t. below.disjunction at >>= (λ a. expect sign.CloseParenthesis >> pure (e.parenthesized t.pos a)))
      (on_if deep (is_keyword word.If) if_rest
      (on_if deep (is_keyword word.Throw) (λ t. below.disjunction at >>= (λ a. pure (e.throw t.pos a)))
      (on_if (not at.in_lambda) (is_keyword word.Return)
      (λ t. where_next begins_expression
      (below.disjunction at >>= (λ a. pure (e.return t.pos (e.some_expression a))))
      (pure (e.return t.pos e.no_expression)))
      (on_if at.in_loop (is_keyword word.Break) (λ t. pure (e.break t.pos))
      (on_if at.in_loop (is_keyword word.Continue) (λ t. pure (e.continue t.pos))
      (on (is_sign sign.OpenBrace) lambda_rest
      (on (is_keyword word.When) when_rest
      (on (is_keyword word.Try) try_rest
      (on is_open_quote (λ t. repeat (part_turn t.pos) [])
      (on (is_keyword word.This) (λ t. pure (e.this t.pos))
      (on is_identifier (λ t. pure (e.name t.pos (name_of t)))
      (meant literal_of >>= (λ l. pure (e.literal l.0.pos l.1))))))))))))))

  -- behind '('
  abbrev pub arguments_rest : Parser Token (List ExpressionTree)
  arguments_rest = maybe_commas (is_sign sign.CloseParenthesis) (below.disjunction at)
      >>= (λ es. where_next (is_sign sign.OpenBrace) (below.lambda at >>= (λ l. pure (es ++ l ∷ []))) (pure es))

  -- a call behind its type arguments, with the place of its first token
  abbrev pub call_parser : Parser Token (List ExpressionTree × Pos)
  call_parser =
      on (is_sign sign.OpenParenthesis) (λ t. arguments_rest >>= (λ es. pure (es, t.pos)))
      (below.lambda at >>= (λ l. pure (l ∷ [], place l)))

  abbrev pub call_of : ExpressionTree → List TypeTree × Pos → Parser Token (ExpressionTree ⊎ ExpressionTree)
  call_of a ts = call_parser >>= (λ es. pure (inl (called a ts.1 ts.0 es.0)))

  abbrev pub plain_call : ExpressionTree → Parser Token (ExpressionTree ⊎ ExpressionTree)
  plain_call a = call_parser >>= (λ es. pure (inl (called a es.1 [] es.0)))

  -- behind '['
  abbrev pub element : ExpressionTree → Parser Token (ExpressionTree ⊎ ExpressionTree)
  element a = below.disjunction at >>= (λ i. expect sign.CloseBracket >> pure (inl (e.index (place a) a i)))

  -- behind '.' or '?.'
  abbrev pub member : ExpressionTree → Bool → Parser Token (ExpressionTree ⊎ ExpressionTree)
  member a safe = lines >> (token is_identifier >>= (λ x. pure (inl (e.member (place a) a safe (name_of x)))))

  abbrev pub type_arguments_of_call : Parser Token (List TypeTree × Pos)
  type_arguments_of_call = do
    t ← expect sign.Less
    ts ← commas (is_sign sign.Greater) (type_parser room)
    ahead opens_arguments
    pure (ts, t.pos)

  abbrev pub suffix_turn : ExpressionTree → Parser Token (ExpressionTree ⊎ ExpressionTree)
  suffix_turn a = attempt_if (ends_in_name a) type_arguments_of_call (call_of a)
      (attempt_if (has_call a) (ahead opens_arguments) (λ _. plain_call a)
      (on_if (has_more a) (is_sign sign.NotNull) (λ _. pure (inl (e.not_null (place a) a)))
      (on_if (has_more a) (is_sign sign.OpenBracket) (λ _. element a)
      (attempt_if (has_more a) (lines >> meant member_of) (λ safe. member a safe.1) (pure (inr a))))))

  abbrev pub postfix : Parser Token ExpressionTree
  postfix = primary >>= (λ a. repeat suffix_turn a)

  abbrev pub prefix_parser : Parser Token ExpressionTree
  prefix_parser = attempt_if deep (meant prefix_of) (λ o. below.prefix at >>= (λ a. pure (e.prefix o.0.pos o.1 a)))
      postfix

  abbrev pub cast_turn : ExpressionTree → Parser Token (ExpressionTree ⊎ ExpressionTree)
  cast_turn a = attempt_if (has_more a) (meant cast_of)
      (λ safe. lines >> (type_parser room >>= (λ t. pure (inl (e.cast (place a) a safe.1 t))))) (pure (inr a))

  abbrev pub cast_parser : Parser Token ExpressionTree
  cast_parser = prefix_parser >>= (λ a. repeat cast_turn a)

  abbrev pub build : Token × BinaryOperator → ExpressionTree → ExpressionTree → ExpressionTree
  build o a b = e.binary (place a) o.1 a b

  abbrev pub multiplicative_parser : Parser Token ExpressionTree
  multiplicative_parser = chain has_more cast_parser (meant multiplicative_of) is_new_line (below.cast at) build

  abbrev pub additive_parser : Parser Token ExpressionTree
  additive_parser = chain has_more multiplicative_parser (meant additive_of) is_new_line (below.multiplicative at) build

  abbrev pub infix_parser : Parser Token ExpressionTree
  infix_parser = chain has_more additive_parser (meant infix_of) is_new_line (below.additive at) build

  abbrev pub elvis_parser : Parser Token ExpressionTree
  elvis_parser = chain has_more infix_parser (lines >> meant elvis_of) is_new_line (below.infixed at) build

  abbrev pub test_parser : Parser Token ExpressionTree
  test_parser = elvis_parser
      >>= (λ a. attempt_if (has_more a) (meant type_check_of)
      (λ not. lines >> (type_parser room >>= (λ t. pure (e.type_check (place a) a not.1 t)))) (pure a))

  abbrev pub comparison_parser : Parser Token ExpressionTree
  comparison_parser = test_parser
      >>= (λ a. attempt_if (has_more a) (meant comparison_of)
      (λ o. lines >> (below.test at >>= (λ b. pure (build o a b)))) (pure a))

  abbrev pub equality_parser : Parser Token ExpressionTree
  equality_parser = chain has_more comparison_parser (meant equality_of) is_new_line (below.comparison at) build

  abbrev pub conjunction_parser : Parser Token ExpressionTree
  conjunction_parser =
      chain has_more equality_parser (lines >> meant conjunction_of) is_new_line (below.equality at) build

  abbrev pub disjunction_parser : Parser Token ExpressionTree
  disjunction_parser =
      chain has_more conjunction_parser (lines >> meant disjunction_of) is_new_line (below.conjunction at) build
