-- Primaries, and what follows them, are read exactly over what has one level less.
use Rattle.std.proofs.Common.{
  not,
  ◌≡◌,
  suc,
  Bool,
  true,
  false,
  List,
  [],
  ◌∷◌,
  ◌++◌,
  Option,
  None,
  Some,
  refl,
  sym,
  ◌∙◌,
  inl,
  inr,
}
use Rattle.std.specs.Prelude.{is_some}
use Rattle.kt_tree.specs.declared.tokens.Token.{Token}
use Rattle.kt_tree.specs.declared.tokens.TokenKind.{TokenKind}
use Rattle.kt_tree.specs.declared.tokens.TokenKind.TheVariants as kind
use Rattle.kt_tree.specs.declared.tokens.Sign.{Sign}
use Rattle.kt_tree.specs.declared.tokens.Sign.TheVariants as sign
use Rattle.kt_tree.specs.declared.tokens.Keyword.{Keyword}
use Rattle.kt_tree.specs.declared.tokens.Keyword.TheVariants as word
use Rattle.kt_tree.specs.declared.bodies.Literal.TheVariants as literal
use Rattle.kt_tree.specs.Tokens.{
  same_sign,
  same_keyword,
  kind_is_sign,
  kind_is_keyword,
  kind_is_identifier,
  is_identifier,
}
use Rattle.kt_tree.specs.Bodies as e
use Rattle.kt_tree.specs.Bodies.{ExpressionTree}
use Rattle.kt_grammar_parsers.specs.Parsers.{first, some_levels, ◌>>=◌, pure, on}
use Rattle.kt_grammar_parsers.specs.Phrases.{IsNothing, IsToken, Seq, Either, NotReads, ends}
use Rattle.kt_grammar.specs.Terminals.{
  begins_expression,
  kind_is_open_quote,
  keyword_literal,
  kind_literal,
  literal_of,
  name_of,
}
use Rattle.kt_grammar.specs.Words.{IsMeant}
use Rattle.kt_grammar.specs.Readers.{meant}
use Rattle.kt_grammar.specs.Levels.{Phrases}
use Rattle.kt_grammar.specs.declared.context.Context.{Context}
use Rattle.kt_grammar.specs.Expressions.{IsPrimary, IsPostfix}
use Rattle.kt_grammar.specs.ExpressionParser.{Parsers, primary, postfix}
use Rattle.kt_grammar_parsers.proofs.Steps.{truth}
use Rattle.kt_grammar.proofs.types.TypesRead.{a_sign, a_name}
use Rattle.kt_grammar.proofs.parts.Sequences.{Part, Anything, Closes, then, made, any_part}
use Rattle.kt_grammar.proofs.tokens.Meanings.{closes_halts, halts_no, meant_part}
use Rattle.kt_grammar.proofs.tokens.Distinct.{no_sign, no_keyword}
use Rattle.kt_grammar.proofs.parts.Choices.{on_part}
use Rattle.kt_grammar.proofs.tokens.Keywords.{or_left, or_right}
use Rattle.kt_grammar.proofs.parts.Productions.{Production, goes}
use Rattle.kt_grammar.proofs.tokens.Begins.{
  kind_begins_expression,
  keyword_begins_expression,
  Begins,
  begins_no,
  begins_not_read,
  seq_begins_with,
  either_begins_with,
  token_begins_with,
}
use Rattle.kt_grammar.proofs.parts.Below.{Halts, ReadsBelow}
use Rattle.kt_grammar.proofs.parts.Left.{read_part, next_left}
use Rattle.kt_grammar.proofs.tokens.Witnesses.{a_keyword, keyword_is, sign_is, close_then, parenthesis_ends}
use Rattle.kt_grammar.proofs.parts.Firsts.{meant_begins}
use Rattle.kt_grammar.proofs.parts.Alternatives.{
  or_kind,
  kind_or,
  at_kind_sign,
  at_kind_keyword,
  or_where_room,
  or_else,
  or_where,
}
use Rattle.kt_grammar.proofs.expressions.StringsRead.{a_token, template_part}
use Rattle.kt_grammar.proofs.expressions.LambdasRead.{lambda_rest_part}
use Rattle.kt_grammar.proofs.expressions.ConditionalsRead.{if_part, no_if, when_part}
use Rattle.kt_grammar.proofs.expressions.TriesRead.{try_part}
use Rattle.kt_grammar.proofs.expressions.SuffixesRead.{suffixes_end, suffixes_part}

-- ---- literals and names

abbrev kind_is_literal : TokenKind → Bool
kind_is_literal k = is_some (kind_literal k)

not_some : {A : Type 0} (o : Option A) → is_some o ≡ false → o ≡ None
not_some None h = refl
not_some (Some a) h = absurd (let e : true ≡ false = h in cc)

literal_no_name : (k : TokenKind) → kind_is_literal k ≡ true → kind_is_identifier k ≡ false
literal_no_name (kind.Identifier name) h = absurd (let e : false ≡ true = h in cc)
literal_no_name _ h = refl

abbrev named_or_literal : TokenKind → Bool
named_or_literal = or_kind kind_is_identifier kind_is_literal

literal_begins : (test : TokenKind → Bool) → ((k : TokenKind) → kind_is_literal k ≡ true → test k ≡ true) → Begins test (Seq (IsMeant literal_of) (λ l. IsNothing (e.literal l.0.pos l.1)))
literal_begins test more = seq_begins_with test (meant_begins literal_of test (λ t h. not_some (literal_of t) (not_literal t.kind h)))
  where
    not_literal : (k : TokenKind) → test k ≡ false → kind_is_literal k ≡ false
    not_literal k h = elim (truth (kind_is_literal k)) [ inl y ↦ absurd (let e : true ≡ false = sym (more k y) ∙ h in cc) | inr n ↦ n ]

literal_part : Part (meant literal_of >>= (λ l. pure (e.literal l.0.pos l.1))) (Seq (IsMeant literal_of) (λ l. IsNothing (e.literal l.0.pos l.1))) Anything (λ _. Closes)
literal_part = then (meant_part literal_of (a_keyword word.Null) literal.Null refl {F = Anything} {N = Anything} (λ tail h. tt)) (λ l. made (e.literal l.0.pos l.1) (λ tail h. tt))

abbrev IsNamed : ExpressionTree → List Token → List Token → Type 0
IsNamed = Seq (IsToken is_identifier) (λ t. IsNothing (e.name t.pos (name_of t)))

abbrev IsSome : ExpressionTree → List Token → List Token → Type 0
IsSome = Either IsNamed (Seq (IsMeant literal_of) (λ l. IsNothing (e.literal l.0.pos l.1)))

-- ID | literal
name_production : Production named_or_literal (on is_identifier (λ t. pure (e.name t.pos (name_of t))) (meant literal_of >>= (λ l. pure (e.literal l.0.pos l.1)))) IsSome
name_production = record {
  correct = (on_part a_name refl (λ t. made (e.name t.pos (name_of t)) (λ tail h. tt)) literal_part (begins_no kind_is_literal is_identifier (λ t h. literal_no_name t.kind h) (literal_begins kind_is_literal (λ k h. h)))).correct;
  phrase = record { whole = e.name a_name.pos (name_of a_name); tokens = a_name ∷ []; phrase = λ tail h. inl (record { value = a_name; front = a_name ∷ []; back = []; is = refl; phrase = record { passes = refl; one = refl }; phrase' = record { value = refl; none = refl } }) };
  name = refl;
  begins = either_begins_with named_or_literal (seq_begins_with named_or_literal (token_begins_with is_identifier named_or_literal (λ t h. or_left (kind_is_identifier t.kind) (kind_is_literal t.kind) h))) (literal_begins named_or_literal (λ k h. or_right (kind_is_identifier k) (kind_is_literal k) h));
}

-- ---- with what primaries begin, from the last alternative to the first

abbrev from_this : TokenKind → Bool
from_this = or_kind (kind_is_keyword word.This) named_or_literal

abbrev from_string : TokenKind → Bool
from_string = or_kind kind_is_open_quote from_this

abbrev from_try : TokenKind → Bool
from_try = or_kind (kind_is_keyword word.Try) from_string

abbrev from_when : TokenKind → Bool
from_when = or_kind (kind_is_keyword word.When) from_try

abbrev from_lambda : TokenKind → Bool
from_lambda = or_kind (kind_is_sign sign.OpenBrace) from_when

abbrev from_continue : TokenKind → Bool
from_continue = or_kind (kind_is_keyword word.Continue) from_lambda

abbrev from_break : TokenKind → Bool
from_break = or_kind (kind_is_keyword word.Break) from_continue

abbrev from_return : TokenKind → Bool
from_return = or_kind (kind_is_keyword word.Return) from_break

abbrev from_throw : TokenKind → Bool
from_throw = or_kind (kind_is_keyword word.Throw) from_return

abbrev from_if : TokenKind → Bool
from_if = or_kind (kind_is_keyword word.If) from_throw

abbrev pub begins_primary : TokenKind → Bool
begins_primary = or_kind (kind_is_sign sign.OpenParenthesis) from_if

this_no_quote : (k : TokenKind) → from_this k ≡ true → kind_is_open_quote k ≡ false
this_no_quote kind.OpenQuote h = absurd (let e : false ≡ true = h in cc)
this_no_quote _ h = refl

module _ (parsers : Parsers) (phrases : Phrases) (R : ReadsBelow parsers phrases) (at : Context) where
  abbrev left : Bool
  left = some_levels parsers.levels

  no_expression : (tail : List Token) → Halts tail → first begins_expression tail ≡ false
  no_expression tail h = halts_no kind_begins_expression refl refl refl refl refl refl refl tail h

  none : {B : Type 0} {M : ExpressionTree → B → List Token → List Token → Type 0} → left ≡ false → (b : B) (u rest : List Token) → Seq (phrases.disjunction at) M b u rest → ⊥
  none h b u rest s = (R.disjunction at).none h s.value s.front (s.back ++ rest) s.phrase

  inner : left ≡ true → Part (parsers.disjunction at) (phrases.disjunction at) Anything (λ _. Closes)
  inner h = read_part (R.disjunction at) h closes_halts (λ ts s. tt)

  -- from the last alternative to the first
  pub primary_production : Production begins_primary (primary (suc parsers.levels) parsers at) (IsPrimary (suc parsers.levels) phrases at)
  unfolding same_sign same_keyword
  primary_production =
      or_where_room (kind_is_sign sign.OpenParenthesis) (a_sign sign.OpenParenthesis) (sign_is sign.OpenParenthesis) (no_sign from_if sign.OpenParenthesis refl)
      (or_where_room (kind_is_keyword word.If) (a_keyword word.If) (keyword_is word.If) (no_keyword from_throw word.If refl)
      (or_where_room (kind_is_keyword word.Throw) (a_keyword word.Throw) (keyword_is word.Throw) (no_keyword from_return word.Throw refl)
      (or_where (kind_is_keyword word.Return) (a_keyword word.Return) (keyword_is word.Return) (no_keyword from_break word.Return refl)
      (or_where (kind_is_keyword word.Break) (a_keyword word.Break) (keyword_is word.Break) (no_keyword from_continue word.Break refl)
      (or_where (kind_is_keyword word.Continue) (a_keyword word.Continue) (keyword_is word.Continue) (no_keyword from_lambda word.Continue refl)
      (or_else (kind_is_sign sign.OpenBrace) (a_sign sign.OpenBrace) (sign_is sign.OpenBrace) (no_sign from_when sign.OpenBrace refl)
      (or_else (kind_is_keyword word.When) (a_keyword word.When) (keyword_is word.When) (no_keyword from_try word.When refl)
      (or_else (kind_is_keyword word.Try) (a_keyword word.Try) (keyword_is word.Try) (no_keyword from_string word.Try refl)
      (or_else kind_is_open_quote (a_token kind.OpenQuote) refl (λ t h. this_no_quote t.kind h)
      (or_else (kind_is_keyword word.This) (a_keyword word.This) (keyword_is word.This) (no_keyword named_or_literal word.This refl) name_production
      (λ t. made (e.this t.pos) (λ tail h. tt)))
      (λ t. template_part parsers.levels parsers phrases R refl at t.pos))
      (try_part parsers.levels parsers phrases R at))
      (when_part parsers.levels parsers phrases R at))
      (λ t. any_part (lambda_rest_part parsers.levels parsers phrases R at t)))
      at.in_loop (λ h t. made (e.continue t.pos) (λ tail s. tt)))
      at.in_loop (λ h t. made (e.break t.pos) (λ tail s. tt)))
      (not at.in_lambda) (λ h t. next_left left (R.disjunction at) closes_halts (λ i a. made (e.return t.pos (e.some_expression a)) (λ tail s. s)) (made (e.return t.pos e.no_expression) (λ tail s. tt)) (λ tail s. no_expression tail (closes_halts tail s))))
      left (λ h t. then (inner h) (λ a. made (e.throw t.pos a) (λ tail s. s))) (λ h t. none h))
      left (if_part parsers.levels parsers phrases R at) (no_if parsers.levels parsers phrases R at))
      left (λ h t. close_then sign.CloseParenthesis parenthesis_ends (inner h) (λ a _. made (e.parenthesized t.pos a) (λ tail s. tt))) (λ h t. none h)

  -- primary suffix*
  pub postfix_production : Production begins_primary (postfix (suc parsers.levels) parsers at) (IsPostfix (suc parsers.levels) phrases at)
  postfix_production = goes primary_production (suffixes_part parsers phrases R at) (λ a. a) (λ a tail h. ends (suffixes_end parsers phrases R at a tail h))

-- ---- a primary begins as an expression does, and with no prefix

word_wider : (w : Keyword) → is_some (keyword_literal w) ≡ true → keyword_begins_expression w ≡ true
word_wider word.True h = refl
word_wider word.False h = refl
word_wider word.Null h = refl
word_wider _ h = absurd (let e : false ≡ true = h in cc)

literal_wider : (k : TokenKind) → kind_is_literal k ≡ true → kind_begins_expression k ≡ true
literal_wider (kind.Number x) h = refl
literal_wider (kind.Character unit) h = refl
literal_wider (kind.Keyword w) h = word_wider w h
literal_wider _ h = absurd (let e : false ≡ true = h in cc)

name_wider : (k : TokenKind) → kind_is_identifier k ≡ true → kind_begins_expression k ≡ true
name_wider (kind.Identifier name) h = refl
name_wider _ h = absurd (let e : false ≡ true = h in cc)

quote_wider : (k : TokenKind) → kind_is_open_quote k ≡ true → kind_begins_expression k ≡ true
quote_wider kind.OpenQuote h = refl
quote_wider _ h = absurd (let e : false ≡ true = h in cc)

or_word : (w : Keyword) (test : TokenKind → Bool) → kind_begins_expression (kind.Keyword w) ≡ true → ((k : TokenKind) → test k ≡ true → kind_begins_expression k ≡ true) → (k : TokenKind) → or_kind (kind_is_keyword w) test k ≡ true → kind_begins_expression k ≡ true
or_word w test e more = kind_or (kind_is_keyword w) test kind_begins_expression (at_kind_keyword w kind_begins_expression e) more

or_sign : (s : Sign) (test : TokenKind → Bool) → kind_begins_expression (kind.Sign s) ≡ true → ((k : TokenKind) → test k ≡ true → kind_begins_expression k ≡ true) → (k : TokenKind) → or_kind (kind_is_sign s) test k ≡ true → kind_begins_expression k ≡ true
or_sign s test e more = kind_or (kind_is_sign s) test kind_begins_expression (at_kind_sign s kind_begins_expression e) more

pub primary_wider : (k : TokenKind) → begins_primary k ≡ true → kind_begins_expression k ≡ true
primary_wider = or_sign sign.OpenParenthesis from_if refl (or_word word.If from_throw refl (or_word word.Throw from_return refl (or_word word.Return from_break refl (or_word word.Break from_continue refl (or_word word.Continue from_lambda refl
    (or_sign sign.OpenBrace from_when refl (or_word word.When from_try refl (or_word word.Try from_string refl
    (kind_or kind_is_open_quote from_this kind_begins_expression quote_wider (or_word word.This named_or_literal refl (kind_or kind_is_identifier kind_is_literal kind_begins_expression name_wider literal_wider)))))))))))

pub primary_no_minus : begins_primary (kind.Sign sign.Minus) ≡ false
unfolding same_sign
primary_no_minus = refl

pub primary_no_bang : begins_primary (kind.Sign sign.Not) ≡ false
unfolding same_sign
primary_no_bang = refl
