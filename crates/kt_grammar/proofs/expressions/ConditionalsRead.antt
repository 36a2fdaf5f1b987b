-- `if` and `when` are read exactly.
use Rattle.std.proofs.Common.{not, ◌≡◌, ℕ, suc, Bool, true, false, List, ◌++◌, Option, None, Some, refl, ap, subst}
use Rattle.std.specs.Prelude.{is_some}
use Rattle.kt_tree.specs.declared.tokens.Token.{Token}
use Rattle.kt_tree.specs.declared.tokens.TokenKind.{TokenKind}
use Rattle.kt_tree.specs.declared.tokens.TokenKind.TheVariants as kind
use Rattle.kt_tree.specs.declared.tokens.Sign.TheVariants as sign
use Rattle.kt_tree.specs.declared.tokens.Keyword.TheVariants as word
use Rattle.kt_tree.specs.Tokens.{same_sign, kind_is_sign, kind_is_keyword, is_sign, is_keyword, is_new_line}
use Rattle.kt_tree.specs.Bodies as e
use Rattle.kt_tree.specs.Bodies.{ExpressionTree, maybe_expression, entries_of}
use Rattle.kt_grammar_parsers.specs.Parsers.{first, some_levels, ◌>>◌, token, skip}
use Rattle.kt_grammar_parsers.specs.Phrases.{IsNothing, IsToken, Seq, NotReads, FirstOf, WhereRoom}
use Rattle.kt_grammar.specs.Terminals.{is_no_arrow}
use Rattle.kt_grammar.specs.Words.{IsPast, Items}
use Rattle.kt_grammar.specs.Levels.{Phrases}
use Rattle.kt_grammar.specs.declared.context.Context.{Context}
use Rattle.kt_grammar.specs.Expressions.{IsElse, IsSubject}
use Rattle.kt_grammar.specs.ExpressionParser.{Parsers, else_word, if_rest, subject, when_rest}
use Rattle.kt_grammar.proofs.types.TypesRead.{a_sign}
use Rattle.kt_grammar.proofs.parts.Sequences.{Part, Anything, Closes, then, made, one, any_part, past, where_part}
use Rattle.kt_grammar.proofs.parts.Choices.{past_then, on_part}
use Rattle.kt_grammar.proofs.parts.Optionals.{on_room_part}
use Rattle.kt_grammar.proofs.tokens.Meanings.{closes_halts, halts_no}
use Rattle.kt_grammar.proofs.tokens.Distinct.{no_sign, no_new_line}
use Rattle.kt_grammar.proofs.tokens.Begins.{
  kind_begins_statement,
  of_kind,
  Begins,
  first_no,
  first_yes,
  begins_not_read,
  seq_begins_with,
  either_begins_with,
}
use Rattle.kt_grammar.proofs.parts.Below.{Halts, ReadsBelow}
use Rattle.kt_grammar.proofs.parts.Left.{read_part}
use Rattle.kt_grammar.proofs.tokens.Witnesses.{
  a_keyword,
  keyword_is,
  sign_is,
  sign_then,
  close_then,
  sign_past_then,
  sign_begins,
  keyword_begins,
  begins_no_sign,
  begins_no_line,
  at_sign,
  parenthesis_ends,
}
use Rattle.kt_grammar.proofs.parts.Firsts.{past_begins, ahead_part, lines_part}
use Rattle.kt_grammar.proofs.expressions.BlocksRead.{in_braces_part}

abbrev kind_begins_else : TokenKind → Bool
kind_begins_else kind.NewLine = true
kind_begins_else (kind.Keyword word.Else) = true
kind_begins_else _ = false

abbrev kind_begins_other : TokenKind → Bool
kind_begins_other (kind.Sign sign.Semicolon) = true
kind_begins_other k = kind_begins_else k

-- a body follows
abbrev BodyNext : List Token → Type 0
BodyNext tail = first (of_kind kind_begins_statement) tail ≡ true

body_no_arrow : (t : Token) → kind_begins_statement t.kind ≡ true → is_no_arrow t ≡ true
body_no_arrow t h = ap not (no_sign kind_begins_statement sign.Arrow refl t h)

body_no_line : (tail : List Token) → BodyNext tail → first is_new_line tail ≡ false
body_no_line tail h = first_no (of_kind kind_begins_statement) is_new_line tail (no_new_line kind_begins_statement refl) h

module _ (n : ℕ) (parsers : Parsers) (phrases : Phrases) (R : ReadsBelow parsers phrases) (at : Context) where
  abbrev left : Bool
  left = some_levels parsers.levels

  -- n 'else'
  past_else : Part (skip is_new_line >> token (is_keyword word.Else)) (IsPast (IsToken (is_keyword word.Else))) Anything (λ _. Anything)
  past_else = past (begins_no_line (kind_is_keyword word.Else) refl (keyword_begins (kind_is_keyword word.Else) word.Else (keyword_is word.Else))) (one (is_keyword word.Else) (a_keyword word.Else) (keyword_is word.Else) (λ tail h. tt))

  past_else_begins : (test : TokenKind → Bool) → test kind.NewLine ≡ true → test (kind.Keyword word.Else) ≡ true → Begins test (IsPast (IsToken (is_keyword word.Else)))
  past_else_begins test line word_else = past_begins test line (keyword_begins test word.Else word_else)

  -- ';'? n 'else' n
  else_part : Part (else_word (suc n) parsers at) (IsElse (suc n) phrases at) Anything (λ _. BodyNext)
  else_part = then (on_part (a_sign sign.Semicolon) (sign_is sign.Semicolon) (λ _. past_else) past_else (begins_no_sign kind_begins_else sign.Semicolon refl (past_else_begins kind_begins_else refl refl)))
      (λ _. any_part (then (lines_part body_no_line) (λ _. ahead_part is_no_arrow (λ tail h. first_yes (of_kind kind_begins_statement) is_no_arrow tail body_no_arrow h) (λ tail h. h))))

  else_begins : Begins kind_begins_other (IsElse (suc n) phrases at)
  else_begins = seq_begins_with kind_begins_other (either_begins_with kind_begins_other (seq_begins_with kind_begins_other (sign_begins kind_begins_other sign.Semicolon refl)) (past_else_begins kind_begins_other refl refl))

  no_else : (tail : List Token) → Halts tail → NotReads (IsElse (suc n) phrases at) tail
  no_else tail h = begins_not_read kind_begins_other else_begins tail (halts_no kind_begins_other refl refl refl refl refl refl refl tail h)

  -- '(' expr ')' n body (';'? n 'else' n body)?
  abbrev pub IfRest : Token → ExpressionTree → List Token → List Token → Type 0
  IfRest t = Seq (IsToken (is_sign sign.OpenParenthesis)) (λ _. Seq (phrases.disjunction at) (λ a. Seq (IsToken (is_sign sign.CloseParenthesis)) (λ _. Seq (IsPast (phrases.body at)) (λ b.
      FirstOf (IsElse (suc n) phrases at) (λ _. Seq (phrases.body at) (λ c. IsNothing (e.if_else t.pos a b (e.some_body c)))) (IsNothing (e.if_else t.pos a b e.no_body))))))

  pub if_part : left ≡ true → (t : Token) → Part (if_rest (suc n) parsers at t) (IfRest t) Anything (λ _. Closes)
  if_part h t = sign_then sign.OpenParenthesis (λ tail. tt) (λ _. close_then sign.CloseParenthesis parenthesis_ends (read_part (R.disjunction at) h closes_halts (λ ts s. tt))
      (λ a _. past_then (begins_no_line kind_begins_statement refl (R.body at).begins) (read_part (R.body at) h closes_halts (λ ts s. tt))
      (λ b. where_part else_part (λ _. then (read_part (R.body at) h closes_halts (λ ts s. s)) (λ c. made (e.if_else t.pos a b (e.some_body c)) (λ tail s. s))) (made (e.if_else t.pos a b e.no_body) (λ tail s. s)) (λ tail s. no_else tail (closes_halts tail s)))))

  pub no_if : left ≡ false → (t : Token) (a : ExpressionTree) (u rest : List Token) → IfRest t a u rest → ⊥
  no_if h t a u rest s = (R.disjunction at).none h s.phrase'.value s.phrase'.front (s.phrase'.back ++ rest) s.phrase'.phrase

  -- ---- when

  -- `{` follows
  abbrev BraceNext : List Token → Type 0
  BraceNext tail = first (is_sign sign.OpenBrace) tail ≡ true

  brace_no_parenthesis : (tail : List Token) → BraceNext tail → first (is_sign sign.OpenParenthesis) tail ≡ false
  unfolding same_sign
  brace_no_parenthesis tail h = first_no (is_sign sign.OpenBrace) (is_sign sign.OpenParenthesis) tail (at_sign sign.OpenBrace (kind_is_sign sign.OpenParenthesis) false refl) h

  abbrev SubjectWhere : ℕ → Option ExpressionTree → List Token → List Token → Type 0
  SubjectWhere m = WhereRoom (some_levels m) (IsToken (is_sign sign.OpenParenthesis)) (λ _. Seq (phrases.disjunction at) (λ a. Seq (IsToken (is_sign sign.CloseParenthesis)) (λ _. IsNothing (Some a)))) (IsNothing None)

  -- ('(' expr ')')?
  subject_part : Part (subject (suc n) parsers at) (IsSubject (suc n) phrases at) BraceNext (λ _. BraceNext)
  subject_part = subst (λ (m : ℕ). Part (subject (suc n) parsers at) (SubjectWhere m) BraceNext (λ _. BraceNext)) R.same
      (on_room_part left (is_sign sign.OpenParenthesis) (a_sign sign.OpenParenthesis) (sign_is sign.OpenParenthesis)
      (λ h _. close_then sign.CloseParenthesis parenthesis_ends (read_part (R.disjunction at) h closes_halts (λ ts s. tt)) (λ a _. made (Some a) (λ tail s. tt))) (made None (λ tail s. s)) brace_no_parenthesis)

  -- ('(' expr ')')? n '{' sep? (entry (sep entry)*)? sep? '}'
  abbrev pub WhenRest : Token → ExpressionTree → List Token → List Token → Type 0
  WhenRest t = Seq (IsSubject (suc n) phrases at) (λ a. Seq (IsPast (IsToken (is_sign sign.OpenBrace))) (λ _. Seq (Items (is_sign sign.CloseBrace) (phrases.entry at (is_some a))) (λ es. IsNothing (e.when t.pos (maybe_expression a) (entries_of es.0)))))

  pub when_part : (t : Token) → Part (when_rest (suc n) parsers at t) (WhenRest t) Anything (λ _. Closes)
  when_part t = any_part (then subject_part (λ a. sign_past_then sign.OpenBrace (λ tail. sign_is sign.OpenBrace) (λ _. then (in_braces_part (R.entry at (is_some a)) refl (λ tail. tt)) (λ es. made (e.when t.pos (maybe_expression a) (entries_of es.0)) (λ tail s. tt)))))
