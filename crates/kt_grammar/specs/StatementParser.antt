-- Parsers of statements, and of phrases of each number of levels.
use Rattle.std.specs.Prelude.{ℕ, zero, suc, Bool, true, false, not, nat_lt, ◌&&◌, List, [], ◌∷◌, Option, None, Some}
use Rattle.kt_tree.specs.declared.tokens.Token.{Token}
use Rattle.kt_tree.specs.declared.tokens.Sign.TheVariants as sign
use Rattle.kt_tree.specs.declared.tokens.Keyword.TheVariants as word
use Rattle.kt_tree.specs.Tokens.{is_keyword, is_sign, is_identifier}
use Rattle.kt_tree.specs.Bodies as e
use Rattle.kt_tree.specs.Bodies.{
  ExpressionTree,
  StatementTree,
  BodyTree,
  EntryTree,
  ConditionTree,
  CatchTree,
  conditions_of,
  maybe_expression,
}
use Rattle.kt_tree.specs.Levels.{levels}
use Rattle.kt_grammar_parsers.specs.Parsers.{some_levels, first, Parser, ◌>>=◌, ◌>>◌, pure, token, on, attempt_if}
use Rattle.kt_grammar.specs.Terminals.{name_of, variable_of, assignment_of, step_of, range_of, type_check_of}
use Rattle.kt_grammar.specs.Levels.{place, is_target}
use Rattle.kt_grammar.specs.declared.context.Context.{Context}
use Rattle.kt_grammar.specs.Statements.{in_loop}
use Rattle.kt_grammar.specs.Readers.{refuse, meant, on_if, lines, expect, maybe, several_items, type_parser}
use Rattle.kt_grammar.specs.ExpressionParser.{
  Parsers,
  part_of,
  parameter_of,
  block_rest,
  block_of,
  lambda_parser,
  prefix_parser,
  cast_parser,
  multiplicative_parser,
  additive_parser,
  infix_parser,
  test_parser,
  comparison_parser,
  equality_parser,
  conjunction_parser,
  disjunction_parser,
}

abbrev pub refused_if : {A : Type 0} → Bool → Parser Token A → Parser Token A
refused_if true p = refuse
refused_if false p = p

-- refuses where the next token passes the test
abbrev pub unless : {A : Type 0} → (Token → Bool) → Parser Token A → Parser Token A
unless test p = λ c. refused_if (first test c.rest) p c

module _ (room : ℕ) (below : Parsers) (at : Context) where
  abbrev deep : Bool
  deep = some_levels below.levels

  abbrev pub initializer : Parser Token (Option ExpressionTree)
  initializer = on_if deep (is_sign sign.Assign) (λ _. lines >> (below.disjunction at >>= (λ a. pure (Some a))))
      (pure None)

  abbrev pub local_rest : Token × Bool → Parser Token StatementTree
  local_rest var = do
    name ← token is_identifier
    t ← maybe (is_sign sign.Colon) (type_parser room)
    a ← initializer
    pure (e.local var.0.pos var.1 (name_of name) t (maybe_expression a))

  abbrev pub assigns : ExpressionTree → Bool
  assigns a = is_target a && nat_lt (levels a) room

  abbrev pub simple : Parser Token StatementTree
  simple = disjunction_parser room below at
      >>= (λ a. attempt_if (assigns a) (meant assignment_of)
      (λ o. lines >> (below.disjunction at >>= (λ b. pure (e.assign (place a) a o.1 b))))
      (attempt_if (assigns a) (meant step_of) (λ o. pure (e.step (place a) a o.1)) (pure (e.evaluate (place a) a))))

  abbrev pub while_rest : Token → Parser Token StatementTree
  while_rest t = do
    expect sign.OpenParenthesis
    a ← below.disjunction at
    expect sign.CloseParenthesis
    lines
    b ← below.body (in_loop at)
    pure (e.while t.pos a b)

  abbrev pub do_rest : Token → Parser Token StatementTree
  do_rest t = do
    lines
    b ← block_of (below.statement (in_loop at))
    lines
    token (is_keyword word.While)
    expect sign.OpenParenthesis
    a ← below.disjunction at
    expect sign.CloseParenthesis
    pure (e.do_while t.pos b a)

  abbrev pub for_rest : Token → Parser Token StatementTree
  for_rest t = do
    expect sign.OpenParenthesis
    name ← token is_identifier
    token (is_keyword word.In)
    a ← below.additive at
    o ← meant range_of
    b ← below.additive at
    expect sign.CloseParenthesis
    lines
    body ← below.body (in_loop at)
    pure (e.for t.pos (name_of name) a o.1 b body)

  -- no statement begins with `{`
  abbrev pub statement_parser : Parser Token StatementTree
  statement_parser = attempt_if true (meant variable_of) local_rest
      (on_if deep (is_keyword word.While) while_rest
      (on_if deep (is_keyword word.Do) do_rest
      (on_if deep (is_keyword word.For) for_rest (unless (is_sign sign.OpenBrace) simple))))

  abbrev pub body_parser : Parser Token BodyTree
  body_parser = on (is_sign sign.OpenBrace) (λ _. block_rest statement_parser >>= (λ b. pure (e.braces b)))
      (statement_parser >>= (λ s. pure (e.single s)))

  abbrev pub condition_parser : Bool → Parser Token ConditionTree
  condition_parser subject =
      attempt_if subject (meant type_check_of) (λ not. type_parser room >>= (λ t. pure (e.of_type not.1 t)))
      (below.disjunction at >>= (λ a. pure (e.equals a)))

  abbrev pub entry_head : Bool → Parser Token (List ConditionTree)
  entry_head subject = on (is_keyword word.Else) (λ _. pure []) (several_items (pure tt) (below.condition at subject))

  abbrev pub entry_rest : List ConditionTree → Parser Token EntryTree
  entry_rest cs = do
    lines
    expect sign.Arrow
    lines
    b ← below.body at
    pure (e.entry (conditions_of cs) b)

  -- none where no level is left for its body
  abbrev pub entry_parser : Bool → Parser Token EntryTree
  entry_parser subject = refused_if (not deep) (entry_head subject >>= entry_rest)

  abbrev pub catch_parser : List ℕ → Parser Token CatchTree
  catch_parser name = do
    t ← type_parser room
    expect sign.CloseParenthesis
    lines
    b ← block_of (below.statement at)
    pure (e.catch name t b)

abbrev pub no_parsers : Parsers
no_parsers = record {
  levels = 0;
  disjunction = λ _. refuse;
  conjunction = λ _. refuse;
  equality = λ _. refuse;
  comparison = λ _. refuse;
  test = λ _. refuse;
  infixed = λ _. refuse;
  additive = λ _. refuse;
  multiplicative = λ _. refuse;
  cast = λ _. refuse;
  prefix = λ _. refuse;
  lambda = λ _. refuse;
  statement = λ _. refuse;
  body = λ _. refuse;
  part = λ _. refuse;
  parameter = refuse;
  entry = λ _ _. refuse;
  condition = λ _ _. refuse;
  catch = λ _ _. refuse;
}

abbrev pub parsers_over : Parsers → Parsers
parsers_over below = record {
  levels = suc below.levels;
  disjunction = λ at. disjunction_parser (suc below.levels) below at;
  conjunction = λ at. conjunction_parser (suc below.levels) below at;
  equality = λ at. equality_parser (suc below.levels) below at;
  comparison = λ at. comparison_parser (suc below.levels) below at;
  test = λ at. test_parser (suc below.levels) below at;
  infixed = λ at. infix_parser (suc below.levels) below at;
  additive = λ at. additive_parser (suc below.levels) below at;
  multiplicative = λ at. multiplicative_parser (suc below.levels) below at;
  cast = λ at. cast_parser (suc below.levels) below at;
  prefix = λ at. prefix_parser (suc below.levels) below at;
  lambda = λ at. lambda_parser (suc below.levels) below at;
  statement = λ at. statement_parser (suc below.levels) below at;
  body = λ at. body_parser (suc below.levels) below at;
  part = λ at. part_of below.levels (below.disjunction at);
  parameter = parameter_of (suc below.levels);
  entry = λ at. entry_parser (suc below.levels) below at;
  condition = λ at. condition_parser (suc below.levels) below at;
  catch = λ at. catch_parser (suc below.levels) below at;
}

-- parsers of phrases of at most so many levels
unfoldable pub parsers : ℕ → Parsers
parsers zero = no_parsers
parsers (suc n) = parsers_over (parsers n)
