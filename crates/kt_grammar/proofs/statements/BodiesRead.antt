-- Statements as a whole and bodies are read exactly.
use Rattle.std.proofs.Common.{
  ◌≡◌,
  ◌<◌,
  None,
  Some,
  ℕ,
  suc,
  Bool,
  true,
  false,
  List,
  [],
  ◌∷◌,
  ◌++◌,
  length,
  refl,
  sym,
  ap,
  ◌∙◌,
  inl,
  inr,
  ◌⊎◌,
}
use Rattle.std.proofs.lemmas.List.{append-nil}
use Rattle.kt_tree.specs.declared.tokens.Token.{Token}
use Rattle.kt_tree.specs.declared.tokens.TokenKind.{TokenKind}
use Rattle.kt_tree.specs.declared.tokens.TokenKind.TheVariants as kind
use Rattle.kt_tree.specs.declared.tokens.Keyword.{Keyword}
use Rattle.kt_tree.specs.declared.tokens.Keyword.TheVariants as word
use Rattle.kt_tree.specs.declared.tokens.Sign.TheVariants as sign
use Rattle.kt_tree.specs.Tokens.{
  same_sign,
  same_keyword,
  kind_is_sign,
  kind_is_keyword,
  is_sign,
  is_keyword,
  is_identifier,
}
use Rattle.kt_tree.specs.Bodies as e
use Rattle.kt_tree.specs.Bodies.{ExpressionTree, StatementTree, BodyTree, maybe_expression}
use Rattle.kt_grammar_parsers.specs.Parsers.{Parser, first, some_levels, ◌>>=◌, pure, on, attempt}
use Rattle.kt_grammar_parsers.specs.Phrases.{IsNothing, IsToken, Seq, Either, NotReads}
use Rattle.kt_grammar.specs.Words.{IsMeant, Maybe}
use Rattle.kt_grammar.specs.Terminals.{variable_of, name_of, means, nothing}
use Rattle.kt_grammar.specs.Types.{IsType}
use Rattle.kt_grammar.specs.Levels.{Phrases}
use Rattle.kt_grammar.specs.declared.context.Context.{Context}
use Rattle.kt_grammar.specs.Expressions.{IsDisjunction, IsBlock, IsBlockRest}
use Rattle.kt_grammar.specs.Statements.{
  IsInitializer,
  IsLocal,
  IsSimple,
  IsWhile,
  IsDoWhile,
  IsFor,
  IsStatement,
  IsBody,
}
use Rattle.kt_grammar.specs.Readers.{meant, on_if}
use Rattle.kt_grammar.specs.ExpressionParser.{Parsers, disjunction_parser, block_rest}
use Rattle.kt_grammar.specs.StatementParser.{
  local_rest,
  simple,
  while_rest,
  do_rest,
  for_rest,
  unless,
  statement_parser,
  body_parser,
}
use Rattle.kt_grammar.proofs.types.TypesRead.{a_sign}
use Rattle.kt_grammar.proofs.parts.Sequences.{Part, Anything, Closes, then, made}
use Rattle.kt_grammar.proofs.parts.Choices.{either_part, on_part, same_part, seq_left, seq_right}
use Rattle.kt_grammar_parsers.proofs.Optional.{seq_begins}
use Rattle.kt_grammar.proofs.tokens.Begins.{
  of_kind,
  Begins,
  kind_begins_expression,
  kind_begins_statement,
  keyword_begins_expression,
  keyword_begins_statement,
  first_yes,
  first_no,
  first_of_front,
  begins_no,
  begins_eats,
  seq_begins_with,
  either_begins_with,
  token_begins_with,
}
use Rattle.kt_grammar.proofs.parts.Below.{Halts, ReadsBelow}
use Rattle.kt_grammar.proofs.tokens.Meanings.{closes_halts, meant_part}
use Rattle.kt_grammar.proofs.tokens.Distinct.{
  kind_keyword,
  no_sign,
  no_keyword,
  means_none,
  means_some,
  no_meaning,
  token_no,
}
use Rattle.kt_grammar.proofs.parts.Productions.{Production, as_part, as_read}
use Rattle.kt_grammar.proofs.tokens.Witnesses.{a_keyword, sign_is}
use Rattle.kt_grammar.proofs.tokens.Apart.{identifier_no_sign}
use Rattle.kt_grammar.proofs.tokens.Closing.{kind_sign}
use Rattle.kt_grammar.proofs.expressions.BlocksRead.{block_rest_part}
use Rattle.kt_grammar.proofs.statements.StatementsRead.{local_part, simple_part}
use Rattle.kt_grammar.proofs.statements.LoopsRead.{
  WhileRest,
  DoRest,
  ForRest,
  while_part,
  do_part,
  for_part,
  no_while,
  no_do,
  no_for,
}
use Rattle.kt_grammar.proofs.tokens.Keywords.{
  or_keyword,
  or_left,
  or_right,
  keyword_or,
  keyword_production,
  wider,
  same_production,
}
use Rattle.kt_grammar.proofs.parts.Unless.{Unless, unless_correct}

identifier_no_brace : (t : Token) → is_identifier t ≡ true → is_sign sign.OpenBrace t ≡ false
identifier_no_brace t h = identifier_no_sign sign.OpenBrace t h

-- ---- with what a statement begins

abbrev begins_loop : TokenKind → Bool
begins_loop = or_keyword word.While (or_keyword word.Do (or_keyword word.For kind_begins_expression))

abbrev begins_all : TokenKind → Bool
begins_all = or_keyword word.Val (or_keyword word.Var begins_loop)

keyword_wider : (w : Keyword) → keyword_begins_expression w ≡ true → keyword_begins_statement w ≡ true
keyword_wider word.Val h = refl
keyword_wider word.Var h = refl
keyword_wider word.While h = refl
keyword_wider word.Do h = refl
keyword_wider word.For h = refl
keyword_wider _ h = h

expression_wider : (k : TokenKind) → kind_begins_expression k ≡ true → kind_begins_statement k ≡ true
expression_wider (kind.Keyword w) h = keyword_wider w h
expression_wider _ h = h

all_wider : (k : TokenKind) → begins_all k ≡ true → kind_begins_statement k ≡ true
all_wider = keyword_or word.Val (or_keyword word.Var begins_loop) kind_begins_statement refl (keyword_or word.Var begins_loop kind_begins_statement refl (keyword_or word.While (or_keyword word.Do (or_keyword word.For kind_begins_expression)) kind_begins_statement refl
    (keyword_or word.Do (or_keyword word.For kind_begins_expression) kind_begins_statement refl (keyword_or word.For kind_begins_expression kind_begins_statement refl expression_wider))))

no-val : begins_loop (kind.Keyword word.Val) ≡ false
unfolding same_keyword
no-val = refl

no-var : begins_loop (kind.Keyword word.Var) ≡ false
unfolding same_keyword
no-var = refl

no-while : or_keyword word.Do (or_keyword word.For kind_begins_expression) (kind.Keyword word.While) ≡ false
unfolding same_keyword
no-while = refl

no-do : or_keyword word.For kind_begins_expression (kind.Keyword word.Do) ≡ false
unfolding same_keyword
no-do = refl

variable_begins : (t : Token) (b : Bool) → variable_of t ≡ Some b → begins_all t.kind ≡ true
variable_begins t b h = elim (means_some (is_keyword word.Val) false (means (is_keyword word.Var) true nothing) t b h) [
  | inl val ↦ or_left (kind_is_keyword word.Val t.kind) (or_keyword word.Var begins_loop t.kind) val
  | inr more ↦ elim (means_some (is_keyword word.Var) true nothing t b more) [
    | inl var ↦ or_right (kind_is_keyword word.Val t.kind) (or_keyword word.Var begins_loop t.kind) (or_left (kind_is_keyword word.Var t.kind) (begins_loop t.kind) var)
    | inr none ↦ absurd (let i : None ≡ Some b = none in cc)
  ]
]

pub variable_part : Part (meant variable_of) (IsMeant variable_of) Anything (λ _. Anything)
unfolding same_keyword
variable_part = meant_part variable_of (a_keyword word.Val) false refl (λ tail h. tt)

variable_none : (t : Token) → of_kind begins_loop t ≡ true → variable_of t ≡ None
variable_none t h = means_none (is_keyword word.Val) false (means (is_keyword word.Var) true nothing) t (no_keyword begins_loop word.Val no-val t h) (means_none (is_keyword word.Var) true nothing t (no_keyword begins_loop word.Var no-var t h) refl)

keyword_no_brace : {A : Type 0} {M : Token → A → List Token → List Token → Type 0} (w : Keyword) (s : A) (u rest : List Token) → Seq (IsToken (is_keyword w)) M s u rest → first (is_sign sign.OpenBrace) (u ++ rest) ≡ false
keyword_no_brace {M = M} w = seq_begins (is_sign sign.OpenBrace) (IsToken (is_keyword w)) M false (token_no (is_keyword w) (is_sign sign.OpenBrace) (no_sign (kind_is_keyword w) sign.OpenBrace refl))

variable_no_brace : (found : Token × Bool) (u rest : List Token) → IsMeant variable_of found u rest → first (is_sign sign.OpenBrace) (u ++ rest) ≡ false
variable_no_brace found u rest l = ap (λ (z : List Token). first (is_sign sign.OpenBrace) (z ++ rest)) l.one ∙ elim (means_some (is_keyword word.Val) false (means (is_keyword word.Var) true nothing) found.0 found.1 l.means) [
  | inl val ↦ no_sign (kind_is_keyword word.Val) sign.OpenBrace refl found.0 val
  | inr more ↦ elim (means_some (is_keyword word.Var) true nothing found.0 found.1 more) [ inl var ↦ no_sign (kind_is_keyword word.Var) sign.OpenBrace refl found.0 var | inr none ↦ absurd (let i : None ≡ Some found.1 = none in cc) ]
]

-- ---- statements

module _ (below : Parsers) (under : Phrases) (R : ReadsBelow below under) (at : Context) (D : Production kind_begins_expression (disjunction_parser (suc below.levels) below at) (IsDisjunction (suc below.levels) under at)) where
  abbrev S : Production kind_begins_expression (simple (suc below.levels) below at) (IsSimple (suc below.levels) under at)
  S = simple_part below under R at D

  abbrev IsPlain : StatementTree → List Token → List Token → Type 0
  IsPlain s u rest = IsSimple (suc below.levels) under at s u rest × (first (is_sign sign.OpenBrace) (u ++ rest) ≡ false)

  plain_starts : (tail : List Token) → first (is_sign sign.OpenBrace) (S.phrase.tokens ++ tail) ≡ false
  plain_starts tail = first_no is_identifier (is_sign sign.OpenBrace) (S.phrase.tokens ++ tail) identifier_no_brace (first_of_front is_identifier S.phrase.tokens tail S.name)

  -- an assignment, a step or an expression, that doesn't begin with `{`
  plain : Production kind_begins_expression (unless (is_sign sign.OpenBrace) (simple (suc below.levels) below at)) IsPlain
  plain = record {
    correct = unless_correct (is_sign sign.OpenBrace) (simple (suc below.levels) below at) (IsSimple (suc below.levels) under at) (λ _. Closes) S.correct (begins_eats kind_begins_expression S.begins) (record { whole = S.phrase.whole; tokens = S.phrase.tokens; phrase = λ tail h. S.phrase.phrase tail (closes_halts tail h) }) plain_starts;
    phrase = record { whole = S.phrase.whole; tokens = S.phrase.tokens; phrase = λ tail h. (S.phrase.phrase tail h, plain_starts tail) };
    name = S.name;
    begins = λ s u rest l. S.begins s u rest l.0;
  }

  abbrev IsNoLocal : StatementTree → List Token → List Token → Type 0
  IsNoLocal = Either (IsWhile (suc below.levels) under at) (Either (IsDoWhile (suc below.levels) under at) (Either (IsFor (suc below.levels) under at) IsPlain))

  abbrev no_local : Parser Token StatementTree
  no_local = on_if (some_levels below.levels) (is_keyword word.While) (while_rest (suc below.levels) below at) (on_if (some_levels below.levels) (is_keyword word.Do) (do_rest (suc below.levels) below at) (on_if (some_levels below.levels) (is_keyword word.For) (for_rest (suc below.levels) below at)
      (unless (is_sign sign.OpenBrace) (simple (suc below.levels) below at))))

  no_local_production : Production begins_loop no_local IsNoLocal
  no_local_production = keyword_production word.While no-while (keyword_production word.Do no-do (keyword_production word.For refl plain (some_levels below.levels) (for_part below under R at) (no_for below under R at))
      (some_levels below.levels) (do_part below under R at) (no_do below under R at)) (some_levels below.levels) (while_part below under R at) (no_while below under R at)

  choice : Production begins_all (attempt (meant variable_of) (local_rest (suc below.levels) below at) no_local) (Either (IsLocal (suc below.levels) under at) IsNoLocal)
  choice = record {
    correct = (either_part variable_part (local_part below under R at) (as_part no_local_production) (λ s u rest l. no_meaning variable_of begins_loop variable_none (u ++ rest) (first_of_front (of_kind begins_loop) u rest (no_local_production.begins s u rest l)))).correct;
    phrase = record { whole = no_local_production.phrase.whole; tokens = no_local_production.phrase.tokens; phrase = λ tail h. inr (no_local_production.phrase.phrase tail h) };
    name = no_local_production.name;
    begins = either_begins_with begins_all (seq_begins_with begins_all (λ found u rest l. ap (first (of_kind begins_all)) l.one ∙ variable_begins found.0 found.1 l.means))
        (λ s u rest l. first_yes (of_kind begins_loop) (of_kind begins_all) u (λ t h. or_right (kind_is_keyword word.Val t.kind) (or_keyword word.Var begins_loop t.kind) (or_right (kind_is_keyword word.Var t.kind) (begins_loop t.kind) h)) (no_local_production.begins s u rest l));
  }

  to_statement : (s : StatementTree) (u rest : List Token) → Either (IsLocal (suc below.levels) under at) IsNoLocal s u rest → IsStatement (suc below.levels) under at s u rest
  to_statement s u rest (inl l) = (inl l, seq_begins (is_sign sign.OpenBrace) (IsMeant variable_of) _ false variable_no_brace s u rest l)
  to_statement s u rest (inr (inl l)) = (inr (inl l), keyword_no_brace word.While s u rest l)
  to_statement s u rest (inr (inr (inl l))) = (inr (inr (inl l)), keyword_no_brace word.Do s u rest l)
  to_statement s u rest (inr (inr (inr (inl l)))) = (inr (inr (inr (inl l))), keyword_no_brace word.For s u rest l)
  to_statement s u rest (inr (inr (inr (inr l)))) = (inr (inr (inr (inr l.0))), l.1)

  from_statement : (s : StatementTree) (u rest : List Token) → IsStatement (suc below.levels) under at s u rest → Either (IsLocal (suc below.levels) under at) IsNoLocal s u rest
  from_statement s u rest l = elim l.0 [ inl a ↦ inl a | inr m ↦ elim m [ inl a ↦ inr (inl a) | inr n ↦ elim n [ inl a ↦ inr (inr (inl a)) | inr o ↦ elim o [ inl a ↦ inr (inr (inr (inl a))) | inr a ↦ inr (inr (inr (inr (a, l.1)))) ] ] ] ]

  pub statement_production : Production kind_begins_statement (statement_parser (suc below.levels) below at) (IsStatement (suc below.levels) under at)
  statement_production = wider begins_all kind_begins_statement all_wider (same_production to_statement from_statement choice)

  -- ---- bodies

  abbrev IsBraces : BodyTree → List Token → List Token → Type 0
  IsBraces = Seq (IsToken (is_sign sign.OpenBrace)) (λ _. Seq (IsBlockRest (IsStatement (suc below.levels) under at)) (λ b. IsNothing (e.braces b)))

  abbrev IsSingle : BodyTree → List Token → List Token → Type 0
  IsSingle = Seq (IsStatement (suc below.levels) under at) (λ s. IsNothing (e.single s))

  single_part : Part (statement_parser (suc below.levels) below at >>= (λ s. pure (e.single s))) IsSingle Anything (λ _. Closes)
  single_part = then (as_part statement_production) (λ s. made (e.single s) (λ tail h. h))

  braces_part : Part (block_rest (statement_parser (suc below.levels) below at) >>= (λ b. pure (e.braces b))) (Seq (IsBlockRest (IsStatement (suc below.levels) under at)) (λ b. IsNothing (e.braces b))) Anything (λ _. Closes)
  braces_part = then (block_rest_part (as_read statement_production true refl)) (λ b. made (e.braces b) (λ tail h. tt))

  single_no_brace : (b : BodyTree) (u rest : List Token) → IsSingle b u rest → first (is_sign sign.OpenBrace) (u ++ rest) ≡ false
  single_no_brace = seq_begins (is_sign sign.OpenBrace) (IsStatement (suc below.levels) under at) (λ s. IsNothing (e.single s)) false (λ s u rest l. l.1)

  chosen_part : Part (body_parser (suc below.levels) below at) (Either IsBraces IsSingle) Anything (λ _. Closes)
  chosen_part = on_part (a_sign sign.OpenBrace) (sign_is sign.OpenBrace) (λ _. braces_part) single_part single_no_brace

  body_part : Part (body_parser (suc below.levels) below at) (IsBody (suc below.levels) under at) Anything (λ _. Closes)
  body_part = same_part
      (λ b u rest l. elim l [ inl s ↦ inl (seq_left (IsToken (is_sign sign.OpenBrace)) (λ _. IsBlockRest (IsStatement (suc below.levels) under at)) (λ b. IsNothing (e.braces b)) b u rest s) | inr m ↦ inr m ])
      (λ b u rest l. elim l [ inl s ↦ inl (seq_right (IsToken (is_sign sign.OpenBrace)) (λ _. IsBlockRest (IsStatement (suc below.levels) under at)) (λ b. IsNothing (e.braces b)) b u rest s) | inr m ↦ inr m ]) chosen_part

  pub body_production : Production kind_begins_statement (body_parser (suc below.levels) below at) (IsBody (suc below.levels) under at)
  body_production = record {
    correct = body_part.correct;
    phrase = record {
      whole = e.single statement_production.phrase.whole;
      tokens = statement_production.phrase.tokens;
      phrase = λ tail h. inr (record { value = statement_production.phrase.whole; front = statement_production.phrase.tokens; back = []; is = sym (append-nil statement_production.phrase.tokens); phrase = statement_production.phrase.phrase tail h; phrase' = record { value = refl; none = refl } });
    };
    name = statement_production.name;
    begins = either_begins_with kind_begins_statement (seq_begins_with kind_begins_statement (seq_begins_with kind_begins_statement (token_begins_with (is_sign sign.OpenBrace) kind_begins_statement (λ t h. ap kind_begins_statement (kind_sign sign.OpenBrace t.kind h)))))
        (seq_begins_with kind_begins_statement statement_production.begins);
  }
