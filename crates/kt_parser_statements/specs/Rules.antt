-- The productions of statements, over what holds `n` levels: each has `n + 1` itself.
use Rattle.std.specs.Prelude.{ℕ, suc, Bool, Option, Some}
use Rattle.kt_tree.specs.declared.tokens.Token.{Token}
use Rattle.kt_tree.specs.declared.tokens.Sign.TheVariants as sign
use Rattle.kt_tree.specs.declared.tokens.Keyword.TheVariants as word
use Rattle.kt_tree.specs.declared.bodies.RangeOperator.{RangeOperator}
use Rattle.kt_tree.specs.declared.bodies.AssignmentOperator.{AssignmentOperator}
use Rattle.kt_tree.specs.Tokens.{is_keyword, is_sign}
use Rattle.kt_tree.specs.Bodies as e
use Rattle.kt_tree.specs.Bodies.{ExpressionTree, StatementTree}
use Rattle.kt_grammar.specs.declared.context.Context.{Context}
use Rattle.kt_grammar.specs.Declarations.{outside}
use Rattle.kt_grammar_parsers.specs.Parsers.{Cursor, Parser, some_levels, first, ◌>>=◌, ◌>>◌, pure, attempt_if}
use Rattle.kt_grammar.specs.Terminals.{name_of, assignment_of, step_of, range_of}
use Rattle.kt_grammar.specs.Levels.{place}
use Rattle.kt_grammar.specs.Readers.{meant, on_if, lines, expect}
use Rattle.kt_grammar.specs.Statements.{in_loop}
use Rattle.kt_grammar.specs.StatementParser as s
use Rattle.kt_grammar.specs.StatementParser.{parsers}

abbrev pub begins_with_brace : Cursor Token → Bool
begins_with_brace c = first (is_sign sign.OpenBrace) c.rest

abbrev pub assigns : ℕ → ExpressionTree → Bool
assigns n = s.assigns (suc n) (parsers n) outside

module _ (n : ℕ) (at : Context) where
  -- ---- expressions and assignments

  abbrev pub assign_rest : ExpressionTree → AssignmentOperator → Parser Token StatementTree
  assign_rest a o = lines >> ((parsers n).disjunction at >>= (λ b. pure (e.assign (place a) a o b)))

  abbrev pub assignment_rest : ExpressionTree → Parser Token StatementTree
  assignment_rest a = attempt_if (assigns n a) (meant assignment_of) (λ o. assign_rest a o.1)
      (attempt_if (assigns n a) (meant step_of) (λ o. pure (e.step (place a) a o.1)) (pure (e.evaluate (place a) a)))

  abbrev pub simple : Parser Token StatementTree
  simple = s.simple (suc n) (parsers n) at

  abbrev pub simple_without_brace : Parser Token StatementTree
  simple_without_brace = s.unless (is_sign sign.OpenBrace) simple

  -- ---- loops

  abbrev pub while_rest : Token → Parser Token StatementTree
  while_rest = s.while_rest (suc n) (parsers n) at

  abbrev pub do_rest : Token → Parser Token StatementTree
  do_rest = s.do_rest (suc n) (parsers n) at

  -- behind the `)` of a `for`
  abbrev pub for_body : Token → Token → ExpressionTree → RangeOperator → ExpressionTree → Parser Token StatementTree
  for_body t x a o b = lines >> ((parsers n).body (in_loop at) >>= (λ body. pure (e.for t.pos (name_of x) a o b body)))

  -- behind `in`
  abbrev pub for_range : Token → Token → Parser Token StatementTree
  for_range t x = (parsers n).additive at
      >>= (λ a. meant range_of
      >>= (λ o. (parsers n).additive at
      >>= (λ b. expect sign.CloseParenthesis >> for_body t x a o.1 b)))

  abbrev pub for_rest : Token → Parser Token StatementTree
  for_rest = s.for_rest (suc n) (parsers n) at

  abbrev pub loop_or_simple : Parser Token StatementTree
  loop_or_simple = on_if (some_levels (parsers n).levels) (is_keyword word.While) while_rest
      (on_if (some_levels (parsers n).levels) (is_keyword word.Do) do_rest
      (on_if (some_levels (parsers n).levels) (is_keyword word.For) for_rest simple_without_brace))

  -- ---- declarations of variables

  abbrev pub initial_value : Parser Token (Option ExpressionTree)
  initial_value = lines >> ((parsers n).disjunction at >>= (λ a. pure (Some a)))

  abbrev pub initializer : Parser Token (Option ExpressionTree)
  initializer = s.initializer (suc n) (parsers n) at

  abbrev pub local_rest : Token × Bool → Parser Token StatementTree
  local_rest = s.local_rest (suc n) (parsers n) at

  abbrev pub statement : Parser Token StatementTree
  statement = s.statement_parser (suc n) (parsers n) at
