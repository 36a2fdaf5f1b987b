-- Where the lexer stands in a text: what is still to come decides what the text has.
use Rattle.std.proofs.Common.{
  ◌≡◌,
  ℕ,
  ◌+◌,
  not,
  ◌<◌,
  Bool,
  true,
  false,
  inl,
  inr,
  List,
  [],
  ◌∷◌,
  ◌++◌,
  None,
  Some,
  Result,
  Err,
  length,
  refl,
  sym,
  ap,
  subst,
  ◌∙◌,
  arith,
}
use Rattle.std.proofs.lemmas.List.{append_assoc, length-append}
use Rattle.kt_base.specs.declared.refusals.Pos.{Pos}
use Rattle.kt_base.specs.declared.refusals.Refusal.{Refusal}
use Rattle.kt_base.specs.declared.refusals.Kind.TheVariants as stage
use Rattle.kt_base.specs.declared.refusals.FrontErr.{FrontErr}
use Rattle.kt_base.specs.declared.refusals.FrontErr.TheVariants as front_err
use Rattle.kt_tree.specs.declared.tokens.Token.{Token}
use Rattle.kt_lexer.specs.declared.brackets.Open.{Open}
use Rattle.kt_lexer.specs.declared.shapes.Shape.{Shape}
use Rattle.kt_tree.specs.declared.tokens.TokenKind.{TokenKind}
use Rattle.kt_lexer.specs.Lexemes as lexemes
use Rattle.kt_lexer.specs.Texts.{
  Lexeme,
  of_kind,
  IsLexeme,
  ordinary,
  between_tokens,
  inside,
  in_string,
  place_behind,
  AreTokens,
  at_end,
  NoneBegins,
  BreaksAt,
  here,
  AreTokensOf,
  IsLexRefusedAt,
}
use Rattle.kt_lexer.specs.Scanning.{passed, lexeme_of, shape_at, seen, after_lexeme, has_ended, NamesAreWords}
use Rattle.kt_lexer.proofs.Cases.{not_true}
use Rattle.kt_lexer.proofs.Whole.{
  found_longest,
  none_there,
  with_lexeme,
  behind_lexeme,
  break_with,
  break_behind,
  end_of,
  ended_tokens,
  no_tokens,
  break_here,
  no_break,
}

-- the text has the tokens that were read and those that the rest has, and breaks where the rest does
pub record Stands (text : List ℕ) (opens : List Open) (at : Pos) (rest : List ℕ) (tokens : List Token) : Type 0 where
  pub reads : (us : List Token) → AreTokens opens at rest us → AreTokensOf text (tokens ++ us)
  pub only : (ts : List Token) → AreTokensOf text ts → (us : List Token) × (ts ≡ tokens ++ us) × AreTokens opens at rest us
  pub breaks : (place : Pos) → BreaksAt opens at rest place → IsLexRefusedAt text place
  pub breaks_only : (place : Pos) → IsLexRefusedAt text place → BreaksAt opens at rest place

pub stands_first : (text : List ℕ) → Stands text [] (record { line = 1; column = 1 }) text []
stands_first text = record { reads = λ us are. are; only = λ ts are. (ts, refl, are); breaks = λ place breaks. breaks; breaks_only = λ place breaks. breaks }

-- behind one lexeme more
pub stands_on : (text : List ℕ) (opens : List Open) (at : Pos) (rest : List ℕ) (tokens : List Token) (f : Shape × List ℕ) → Stands text opens at rest tokens → shape_at (in_string opens) rest ≡ Some f
    → Stands text (after_lexeme (lexeme_of f.0 (passed rest f.1)) opens) (place_behind at (passed rest f.1)) f.1 (tokens ++ seen opens at (lexeme_of f.0 (passed rest f.1)))
stands_on text opens at rest tokens f stands is =
    let found = found_longest (in_string opens) rest f is in
    let u = passed rest f.1 in
    let a = lexeme_of f.0 u in
    record {
      reads = λ us are. subst (AreTokensOf text) (sym (append_assoc tokens (seen opens at a) us))
          (stands.reads (seen opens at a ++ us) (subst (λ t. AreTokens opens at t (seen opens at a ++ us)) (sym found.0) (with_lexeme opens at u f.1 a us found.2 are)));
      only = λ ts are. let before = stands.only ts are in
          let next = behind_lexeme before.2 u f.1 a found.0 found.2 in
          (next.0, before.1 ∙ ap (λ l. tokens ++ l) next.1 ∙ sym (append_assoc tokens (seen opens at a) next.0), next.2);
      breaks = λ place breaks. stands.breaks place (subst (λ t. BreaksAt opens at t place) (sym found.0) (break_with opens at place u f.1 a found.2 breaks));
      breaks_only = λ place breaks. break_behind (stands.breaks_only place breaks) u f.1 a found.0 found.2;
    }

ended_empty : (opens : List Open) (rest : List ℕ) → has_ended opens rest ≡ true → (rest ≡ []) × (in_string opens ≡ false)
ended_empty opens [] is = (refl, not_true (in_string opens) is)
ended_empty opens (c ∷ cs) is = cc

-- at the end of the text END comes last, and nothing breaks
module _ (text : List ℕ) (opens : List Open) (at : Pos) (rest : List ℕ) (tokens : List Token) (stands : Stands text opens at rest tokens) (is : has_ended opens rest ≡ true) where
  pub ended_tokens_are : AreTokensOf text (tokens ++ end_of at)
  ended_tokens_are = let ended = ended_empty opens rest is in stands.reads (end_of at) (subst (λ t. AreTokens opens at t (end_of at)) (sym ended.0) (at_end ended.1))

  pub ended_only : (ts : List Token) → AreTokensOf text ts → tokens ++ end_of at ≡ ts
  ended_only ts are =
      let before = stands.only ts are in
      ap (λ l. tokens ++ l) (sym (ended_tokens before.2 (ended_empty opens rest is).0).0) ∙ sym before.1

  pub ended_breaks : (place : Pos) → IsLexRefusedAt text place → ⊥
  ended_breaks place breaks = let ended = ended_empty opens rest is in no_break (stands.breaks_only place breaks) ended.0 ended.1

none_begins : (opens : List Open) (rest : List ℕ) → shape_at (in_string opens) rest ≡ None → has_ended opens rest ≡ false → NoneBegins opens rest
none_begins opens [] none is = record { none = none_there (in_string opens) [] none; open_end = inr (still_open (in_string opens) is) }
  where
    still_open : (b : Bool) → not b ≡ false → b ≡ true
    still_open true h = refl
    still_open false h = cc
none_begins opens (c ∷ cs) none is = record { none = none_there (in_string opens) (c ∷ cs) none; open_end = inl (omega arith) }

-- where no lexeme is found before the end, the text breaks, and has no tokens
module _ (text : List ℕ) (opens : List Open) (at : Pos) (rest : List ℕ) (tokens : List Token) (stands : Stands text opens at rest tokens)
    (none : shape_at (in_string opens) rest ≡ None) (is : has_ended opens rest ≡ false) where
  pub refused_here : IsLexRefusedAt text at
  refused_here = stands.breaks at (here (none_begins opens rest none is))

  pub refused_only : (place : Pos) → IsLexRefusedAt text place → place ≡ at
  refused_only place breaks = break_here (stands.breaks_only place breaks) (none_begins opens rest none is)

  pub refused_no_tokens : (ts : List Token) → AreTokensOf text ts → ⊥
  refused_no_tokens ts are = no_tokens (stands.only ts are).2 (none_begins opens rest none is)

-- the names among what is found consist of letters, digits and `_`
lexeme_names : {within : Bool} {u rest : List ℕ} {a : Lexeme} → IsLexeme within u rest a → NamesAreWords a
lexeme_names (ordinary o) = ordinary_names o
  where
    ordinary_names : {u rest : List ℕ} {k : TokenKind} → lexemes.IsOrdinary u rest k → NamesAreWords (of_kind k)
    ordinary_names (lexemes.identifier n) = n.word.word
    ordinary_names (lexemes.keyword k w) = tt
    ordinary_names (lexemes.number d) = tt
    ordinary_names (lexemes.long_number d) = tt
    ordinary_names (lexemes.character plain) = tt
    ordinary_names (lexemes.escaped_character e) = tt
    ordinary_names (lexemes.mark s f) = tt
    ordinary_names (lexemes.open_quote) = tt
    ordinary_names (lexemes.line_feed_alone) = tt
    ordinary_names (lexemes.both_line_ends) = tt
lexeme_names (between_tokens b) = tt
lexeme_names (inside p) = inside_names p
  where
    inside_names : {u rest : List ℕ} {k : TokenKind} → lexemes.IsInString u rest k → NamesAreWords (of_kind k)
    inside_names (lexemes.run pass) = tt
    inside_names (lexemes.escape e) = tt
    inside_names (lexemes.name_part n) = n.word.word
    inside_names (lexemes.this_part w) = tt
    inside_names (lexemes.open_template) = tt
    inside_names (lexemes.dollar_alone) = tt
    inside_names (lexemes.close_quote) = tt

pub found_names : (within : Bool) (text : List ℕ) (f : Shape × List ℕ) → shape_at within text ≡ Some f → NamesAreWords (lexeme_of f.0 (passed text f.1))
found_names within text f is = lexeme_names (found_longest within text f is).2.lexeme

-- what is left is less
pub found_shorter : (within : Bool) (text : List ℕ) (f : Shape × List ℕ) → shape_at within text ≡ Some f → length (passed text f.1) + length f.1 ≡ length text
found_shorter within text f is = sym (ap length (found_longest within text f is).0 ∙ length-append (passed text f.1) f.1)

pub found_less : (within : Bool) (text : List ℕ) (f : Shape × List ℕ) → shape_at within text ≡ Some f → length f.1 < length text
found_less within text f is = omega (arith, found_shorter within text f is, (found_longest within text f is).1)

abbrev State : Type 0
State = List Open × Pos × List Token

abbrev state : List Open → Pos → List Token → State
state opens at tokens = (opens, at, tokens)

-- the same, by what a step says of its results
pub stands_next : (text : List ℕ) (opens : List Open) (at : Pos) (rest : List ℕ) (tokens : List Token) (f : Shape × List ℕ) → Stands text opens at rest tokens → shape_at (in_string opens) rest ≡ Some f
    → (u : List ℕ) → u ≡ passed rest f.1 → (opens' : List Open) (at' : Pos) (tokens' : List Token) → opens' ≡ after_lexeme (lexeme_of f.0 u) opens → at' ≡ place_behind at u
    → tokens' ≡ tokens ++ seen opens at (lexeme_of f.0 u) → Stands text opens' at' f.1 tokens'
stands_next text opens at rest tokens f stands is u u_is opens' at' tokens' opens_is at_is tokens_is =
    let o = sym (opens_is ∙ ap (λ u. after_lexeme (lexeme_of f.0 u) opens) u_is) in
    let a = sym (at_is ∙ ap (place_behind at) u_is) in
    let t = sym (tokens_is ∙ ap (λ u. tokens ++ seen opens at (lexeme_of f.0 u)) u_is) in
    let same : state (after_lexeme (lexeme_of f.0 (passed rest f.1)) opens) (place_behind at (passed rest f.1)) (tokens ++ seen opens at (lexeme_of f.0 (passed rest f.1))) ≡ state opens' at' tokens' = λ i. (o i, a i, t i) in
    subst (λ (p : State). Stands text p.0 p.1 f.1 p.2) same (stands_on text opens at rest tokens f stands is)

-- ---- refusals

abbrev pub lex_refusal : Pos → FrontErr
lex_refusal at = front_err.Refused (record { kind = stage.Lex; pos = at })

pub refusal_at : {a b : Pos} → a ≡ b → lex_refusal a ≡ lex_refusal b
refusal_at same = ap lex_refusal same

pub refused_is : {A : Type 0} (text : List ℕ) (at : Pos) (r : Refusal) → ◌≡◌ {A = Result A FrontErr} (Err (lex_refusal at)) (Err (front_err.Refused r)) → IsLexRefusedAt text at
    → (r.kind ≡ stage.Lex) × IsLexRefusedAt text r.pos
refused_is text at r is refused =
    let same : record { kind = stage.Lex; pos = at } ≡ r = cc in
    (ap (λ (r : Refusal). r.kind) (sym same), subst (λ (r : Refusal). IsLexRefusedAt text r.pos) same refused)
