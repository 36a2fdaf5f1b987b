-- The productions of strings and of primary expressions, over what holds `n` levels: each has `n + 1` itself.
use Rattle.std.specs.Prelude.{ℕ, suc, not, List, [], ◌∷◌, ◌++◌, ◌⊎◌}
use Rattle.std.proofs.Common.{inl}
use Rattle.kt_base.specs.declared.refusals.Pos.{Pos}
use Rattle.kt_tree.specs.declared.tokens.Token.{Token}
use Rattle.kt_tree.specs.declared.tokens.Sign.TheVariants as sign
use Rattle.kt_tree.specs.declared.tokens.Keyword.TheVariants as word
use Rattle.kt_tree.specs.Tokens.{is_keyword, is_sign, is_identifier}
use Rattle.kt_tree.specs.Bodies as e
use Rattle.kt_tree.specs.Bodies.{ExpressionTree, PartTree}
use Rattle.kt_grammar.specs.declared.context.Context.{Context}
use Rattle.kt_grammar_parsers.specs.Parsers.{Parser, ◌>>=◌, ◌>>◌, pure, on, where_next, repeat}
use Rattle.kt_grammar.specs.Terminals.{begins_expression, name_of, is_open_quote, literal_of, text_of}
use Rattle.kt_grammar.specs.Readers.{meant, on_if, lines, expect}
use Rattle.kt_grammar.specs.ExpressionParser as p
use Rattle.kt_grammar.specs.StatementParser.{parsers}
use Rattle.kt_parser_blocks.specs.Rules.{lambda_rest, when_rest, try_rest}

abbrev pub text_rest : Parser Token PartTree
text_rest = meant text_of >>= (λ t. pure (e.text t.1))

abbrev pub literal_atom : Parser Token ExpressionTree
literal_atom = meant literal_of >>= (λ l. pure (e.literal l.0.pos l.1))

module _ (n : ℕ) (at : Context) where
  -- ---- strings

  abbrev pub hole_rest : Parser Token PartTree
  hole_rest = lines >> ((parsers n).disjunction at >>= (λ a. lines >> (expect sign.CloseBrace >> pure (e.hole a))))

  abbrev pub string_part : Parser Token PartTree
  string_part = p.part_of n ((parsers n).disjunction at)

  abbrev pub next_part : List PartTree → Parser Token PartTree
  next_part = p.next_part (suc n) (parsers n) at

  abbrev pub further_part : List PartTree → Parser Token (List PartTree ⊎ ExpressionTree)
  further_part ps = next_part ps >>= (λ p. pure (inl (ps ++ p ∷ [])))

  abbrev pub string_turn : Pos → List PartTree → Parser Token (List PartTree ⊎ ExpressionTree)
  string_turn = p.part_turn (suc n) (parsers n) at

  abbrev pub string_rest : Pos → Parser Token ExpressionTree
  string_rest start = repeat (string_turn start) []

  -- ---- primary expressions, from the last in the order of trial to the first

  abbrev pub atom : Parser Token ExpressionTree
  atom = on is_open_quote (λ t. string_rest t.pos)
      (on (is_keyword word.This) (λ t. pure (e.this t.pos))
      (on is_identifier (λ t. pure (e.name t.pos (name_of t))) literal_atom))

  abbrev pub braced : Parser Token ExpressionTree
  braced = on (is_sign sign.OpenBrace) (lambda_rest n)
      (on (is_keyword word.When) (when_rest n at) (on (is_keyword word.Try) (try_rest n at) atom))

  abbrev pub returned_value : Token → Parser Token ExpressionTree
  returned_value t = (parsers n).disjunction at >>= (λ a. pure (e.return t.pos (e.some_expression a)))

  abbrev pub return_rest : Token → Parser Token ExpressionTree
  return_rest t = where_next begins_expression (returned_value t) (pure (e.return t.pos e.no_expression))

  abbrev pub jump : Parser Token ExpressionTree
  jump = on_if (not at.in_lambda) (is_keyword word.Return) return_rest
      (on_if at.in_loop (is_keyword word.Break) (λ t. pure (e.break t.pos))
      (on_if at.in_loop (is_keyword word.Continue) (λ t. pure (e.continue t.pos)) braced))

  abbrev pub throw_rest : Token → Parser Token ExpressionTree
  throw_rest t = (parsers n).disjunction at >>= (λ a. pure (e.throw t.pos a))

  abbrev pub parenthesized_rest : Token → Parser Token ExpressionTree
  parenthesized_rest t = (parsers n).disjunction at
      >>= (λ a. expect sign.CloseParenthesis >> pure (e.parenthesized t.pos a))

  abbrev pub primary : Parser Token ExpressionTree
  primary = p.primary (suc n) (parsers n) at
