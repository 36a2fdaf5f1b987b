-- Loops are read exactly, over what has one level less.
use Rattle.std.proofs.Common.{◌≡◌, ℕ, suc, Bool, true, false, List, ◌∷◌, ◌++◌, refl}
use Rattle.kt_tree.specs.declared.tokens.Token.{Token}
use Rattle.kt_tree.specs.declared.tokens.TokenKind.TheVariants as kind
use Rattle.kt_tree.specs.declared.tokens.Sign.TheVariants as sign
use Rattle.kt_tree.specs.declared.tokens.Keyword.TheVariants as word
use Rattle.kt_tree.specs.declared.bodies.RangeOperator.{RangeOperator}
use Rattle.kt_tree.specs.declared.bodies.RangeOperator.TheVariants as range
use Rattle.kt_tree.specs.Tokens.{
  same_sign,
  same_keyword,
  kind_is_sign,
  kind_is_keyword,
  is_sign,
  is_keyword,
  is_new_line,
  is_identifier,
}
use Rattle.kt_tree.specs.Bodies as e
use Rattle.kt_tree.specs.Bodies.{ExpressionTree, StatementTree, BodyTree, BlockTree}
use Rattle.kt_grammar_parsers.specs.Parsers.{Parser, first, some_levels}
use Rattle.kt_grammar_parsers.specs.Phrases.{IsNothing, IsToken, Seq}
use Rattle.kt_grammar.specs.Words.{IsMeant, IsPast}
use Rattle.kt_grammar.specs.Terminals.{range_of, name_of}
use Rattle.kt_grammar.specs.Levels.{Phrases}
use Rattle.kt_grammar.specs.declared.context.Context.{Context}
use Rattle.kt_grammar.specs.Expressions.{IsBlock, IsBlockRest}
use Rattle.kt_grammar.specs.Statements.{in_loop}
use Rattle.kt_grammar.specs.Readers.{meant}
use Rattle.kt_grammar.specs.ExpressionParser.{Parsers}
use Rattle.kt_grammar.specs.StatementParser.{while_rest, do_rest, for_rest}
use Rattle.kt_grammar.proofs.types.TypesRead.{a_sign, a_name}
use Rattle.kt_grammar.proofs.tokens.Closing.{goes_on}
use Rattle.kt_grammar_parsers.proofs.Optional.{seq_begins}
use Rattle.kt_grammar.proofs.parts.Sequences.{Part, Anything, Closes, then, made, one}
use Rattle.kt_grammar.proofs.parts.Choices.{past_then}
use Rattle.kt_grammar.proofs.tokens.Begins.{kind_begins_expression, kind_begins_statement, begins_no}
use Rattle.kt_grammar.proofs.parts.Below.{ReadsBelow}
use Rattle.kt_grammar.proofs.tokens.Meanings.{meant_part}
use Rattle.kt_grammar.proofs.tokens.Distinct.{no_new_line, token_no}
use Rattle.kt_grammar.proofs.parts.Productions.{as_part, from_read}
use Rattle.kt_grammar.proofs.tokens.Witnesses.{parenthesis_ends, keyword_part, sign_then, close_then}
use Rattle.kt_grammar.proofs.expressions.BlocksRead.{block_part}

range_part : Part (meant range_of) (IsMeant range_of) Closes (λ _. Anything)
unfolding same_sign
range_part = meant_part range_of (a_sign sign.Range) range.Through refl (λ tail h. refl)

keyword_no_line : (t : Token) (u rest : List Token) → IsToken (is_keyword word.While) t u rest → first is_new_line (u ++ rest) ≡ false
keyword_no_line = token_no (is_keyword word.While) is_new_line (no_new_line (kind_is_keyword word.While) refl)

pub block_no_line : (Statement : StatementTree → List Token → List Token → Type 0) (b : BlockTree) (u rest : List Token) → IsBlock Statement b u rest → first is_new_line (u ++ rest) ≡ false
block_no_line Statement = seq_begins is_new_line (IsToken (is_sign sign.OpenBrace)) (λ _. IsBlockRest Statement) false (token_no (is_sign sign.OpenBrace) is_new_line (no_new_line (kind_is_sign sign.OpenBrace) refl))

module _ (below : Parsers) (under : Phrases) (R : ReadsBelow below under) (at : Context) where
  -- what stands behind the keyword
  abbrev pub WhileRest : Token → StatementTree → List Token → List Token → Type 0
  WhileRest t = Seq (IsToken (is_sign sign.OpenParenthesis)) (λ _. Seq (under.disjunction at) (λ a. Seq (IsToken (is_sign sign.CloseParenthesis)) (λ _. Seq (IsPast (under.body (in_loop at))) (λ b. IsNothing (e.while t.pos a b)))))

  abbrev pub DoRest : Token → StatementTree → List Token → List Token → Type 0
  DoRest t = Seq (IsPast (IsBlock (under.statement (in_loop at)))) (λ b. Seq (IsPast (IsToken (is_keyword word.While))) (λ _. Seq (IsToken (is_sign sign.OpenParenthesis)) (λ _. Seq (under.disjunction at) (λ a. Seq (IsToken (is_sign sign.CloseParenthesis)) (λ _. IsNothing (e.do_while t.pos b a))))))

  abbrev pub ForRest : Token → StatementTree → List Token → List Token → Type 0
  ForRest t = Seq (IsToken (is_sign sign.OpenParenthesis)) (λ _. Seq (IsToken is_identifier) (λ name. Seq (IsToken (is_keyword word.In)) (λ _. Seq (under.additive at) (λ a. Seq (IsMeant range_of) (λ o. Seq (under.additive at) (λ b.
      Seq (IsToken (is_sign sign.CloseParenthesis)) (λ _. Seq (IsPast (under.body (in_loop at))) (λ body. IsNothing (e.for t.pos (name_of name) a o.1 b body)))))))))

  body_no_line : (b : BodyTree) (u rest : List Token) → under.body (in_loop at) b u rest → first is_new_line (u ++ rest) ≡ false
  body_no_line = begins_no kind_begins_statement is_new_line (no_new_line kind_begins_statement refl) (R.body (in_loop at)).begins

  module _ (h : some_levels below.levels ≡ true) where
    abbrev inner : Part (below.disjunction at) (under.disjunction at) Anything (λ _. Closes)
    inner = from_read (R.disjunction at) h

    abbrev bound : Part (below.additive at) (under.additive at) Anything (λ _. Closes)
    bound = from_read (R.additive at) h

    abbrev body : Part (below.body (in_loop at)) (under.body (in_loop at)) Anything (λ _. Closes)
    body = from_read (R.body (in_loop at)) h

    pub while_part : (t : Token) → Part (while_rest (suc below.levels) below at t) (WhileRest t) Anything (λ _. Closes)
    while_part t = sign_then sign.OpenParenthesis (λ tail. tt) (λ _. close_then sign.CloseParenthesis parenthesis_ends inner (λ a _. past_then body_no_line body (λ b. made (e.while t.pos a b) (λ tail c. c))))

    pub do_part : (t : Token) → Part (do_rest (suc below.levels) below at t) (DoRest t) Anything (λ _. Closes)
    do_part t = past_then (block_no_line (under.statement (in_loop at))) (block_part (R.statement (in_loop at))) (λ b. past_then keyword_no_line (keyword_part word.While) (λ _. sign_then sign.OpenParenthesis (λ tail. tt) (λ _. close_then sign.CloseParenthesis parenthesis_ends inner (λ a _. made (e.do_while t.pos b a) (λ tail c. tt)))))

    pub for_part : (t : Token) → Part (for_rest (suc below.levels) below at t) (ForRest t) Anything (λ _. Closes)
    for_part t = sign_then sign.OpenParenthesis (λ tail. tt) (λ _. then (one is_identifier a_name refl (λ tail h. tt)) (λ name. then (keyword_part word.In) (λ _. then bound (λ a. then range_part (λ o. close_then sign.CloseParenthesis parenthesis_ends bound (λ b _.
        past_then body_no_line body (λ body. made (e.for t.pos (name_of name) a o.1 b body) (λ tail c. c))))))))

  module _ (h : some_levels below.levels ≡ false) where
    pub no_while : (t : Token) (s : StatementTree) (u rest : List Token) → WhileRest t s u rest → ⊥
    no_while t s u rest q = let a = q.phrase' in (R.disjunction at).none h a.value a.front (a.back ++ rest) a.phrase

    pub no_do : (t : Token) (s : StatementTree) (u rest : List Token) → DoRest t s u rest → ⊥
    no_do t s u rest q = let a = q.phrase'.phrase'.phrase' in (R.disjunction at).none h a.value a.front (a.back ++ rest) a.phrase

    pub no_for : (t : Token) (s : StatementTree) (u rest : List Token) → ForRest t s u rest → ⊥
    no_for t s u rest q = let a = q.phrase'.phrase'.phrase' in (R.additive at).none h a.value a.front (a.back ++ rest) a.phrase
