-- Strings are read exactly.
use Rattle.std.proofs.Common.{
  ◌≡◌,
  ℕ,
  zero,
  suc,
  ◌+◌,
  ◌<◌,
  Bool,
  true,
  false,
  List,
  [],
  ◌∷◌,
  ◌++◌,
  length,
  None,
  Err,
  refl,
  sym,
  subst,
  ◌∙◌,
  arith,
  inl,
  inr,
}
use Rattle.std.specs.Prelude.{nat_le}
use Rattle.std.proofs.lemmas.Bool.{leb-true}
use Rattle.kt_base.specs.declared.refusals.Pos.{Pos}
use Rattle.kt_tree.specs.declared.tokens.Token.{Token}
use Rattle.kt_tree.specs.declared.tokens.TokenKind.{TokenKind}
use Rattle.kt_tree.specs.declared.tokens.TokenKind.TheVariants as kind
use Rattle.kt_tree.specs.declared.tokens.Sign.TheVariants as sign
use Rattle.kt_tree.specs.declared.bodies.TextPart.TheVariants as text
use Rattle.kt_tree.specs.Tokens.{is_sign}
use Rattle.kt_tree.specs.Bodies as e
use Rattle.kt_tree.specs.Bodies.{ExpressionTree, PartTree, parts_of}
use Rattle.kt_tree.specs.Levels.{parts_levels}
use Rattle.kt_grammar_parsers.specs.Parsers.{Cursor, Parser, further, some_levels, repeat}
use Rattle.kt_grammar_parsers.specs.Phrases.{IsNothing, IsToken, Seq, Either, If, Loop, ends}
use Rattle.kt_grammar.specs.Terminals.{
  is_name_part,
  is_this_part,
  is_open_template,
  is_close_quote,
  kind_is_name_part,
  kind_is_this_part,
  kind_is_open_template,
  kind_is_close_quote,
  name_of,
  text_of,
}
use Rattle.kt_grammar.specs.Words.{Empty, IsMeant, IsPast}
use Rattle.kt_grammar.specs.Levels.{Phrases}
use Rattle.kt_grammar.specs.declared.context.Context.{Context}
use Rattle.kt_grammar.specs.Expressions.{IsPart, IsNextPart, PartTurn}
use Rattle.kt_grammar.specs.ExpressionParser.{Parsers, part_of, part_if, next_part, part_turn}
use Rattle.kt_grammar_parsers.proofs.Steps.{Any, truth}
use Rattle.kt_grammar_parsers.proofs.Repeat.{repeat_correct}
use Rattle.kt_grammar.proofs.parts.Sequences.{Part, Anything, Closes, then, made}
use Rattle.kt_grammar.proofs.tokens.Meanings.{closes_halts, token_of, meant_part}
use Rattle.kt_grammar.proofs.parts.Choices.{past_then, same_part}
use Rattle.kt_grammar.proofs.tokens.Begins.{
  kind_begins_expression,
  kind_begins_part,
  Begins,
  begins_no,
  begins_eats,
  seq_begins_with,
  either_begins_with,
  token_begins_with,
}
use Rattle.kt_grammar.proofs.parts.Below.{IsExpressionRead, ReadsBelow}
use Rattle.kt_grammar.proofs.parts.Left.{read_part, on_left, on_room, on_only}
use Rattle.kt_grammar.proofs.tokens.Witnesses.{sign_past_then, begins_no_line, brace_ends}
use Rattle.kt_grammar.proofs.parts.Firsts.{meant_begins, only_begins, seq_eats}

abbrev pub a_token : TokenKind → Token
a_token k = token_of (record { line = 1; column = 1 }) k

abbrev kind_begins_text : TokenKind → Bool
kind_begins_text (kind.Run units) = true
kind_begins_text (kind.Escape unit) = true
kind_begins_text kind.Dollar = true
kind_begins_text _ = false

abbrev kind_begins_hole : TokenKind → Bool
kind_begins_hole kind.OpenTemplate = true
kind_begins_hole k = kind_begins_text k

abbrev kind_begins_this : TokenKind → Bool
kind_begins_this kind.ThisPart = true
kind_begins_this k = kind_begins_hole k

no_text : (k : TokenKind) (at : Pos) → kind_begins_text k ≡ false → text_of (token_of at k) ≡ None
no_text (kind.Run units) at h = absurd cc
no_text (kind.Escape unit) at h = absurd cc
no_text kind.Dollar at h = absurd cc
no_text _ at h = refl

text_no_hole : (k : TokenKind) → kind_begins_text k ≡ true → kind_is_open_template k ≡ false
text_no_hole kind.OpenTemplate h = absurd cc
text_no_hole _ h = refl

hole_no_this : (k : TokenKind) → kind_begins_hole k ≡ true → kind_is_this_part k ≡ false
hole_no_this kind.ThisPart h = absurd cc
hole_no_this _ h = refl

this_no_name : (k : TokenKind) → kind_begins_this k ≡ true → kind_is_name_part k ≡ false
this_no_name (kind.NamePart name) h = absurd cc
this_no_name _ h = refl

part_no_quote : (k : TokenKind) → kind_begins_part k ≡ true → kind_is_close_quote k ≡ false
part_no_quote kind.CloseQuote h = absurd cc
part_no_quote _ h = refl

text_begins : (test : TokenKind → Bool) → ((k : TokenKind) → kind_begins_text k ≡ true → test k ≡ true) → Begins test (IsMeant text_of)
text_begins test more = meant_begins text_of test (λ t h. no_text t.kind t.pos (elim (truth (kind_begins_text t.kind)) [ inl y ↦ absurd (let e : true ≡ false = sym (more t.kind y) ∙ h in cc) | inr n ↦ n ]))

at_template : (test : TokenKind → Bool) → test kind.OpenTemplate ≡ true → (k : TokenKind) → kind_is_open_template k ≡ true → test k ≡ true
at_template test e kind.OpenTemplate h = e
at_template test e _ h = absurd cc

at_this : (test : TokenKind → Bool) → test kind.ThisPart ≡ true → (k : TokenKind) → kind_is_this_part k ≡ true → test k ≡ true
at_this test e kind.ThisPart h = e
at_this test e _ h = absurd cc

name_is_part : (k : TokenKind) → kind_is_name_part k ≡ true → kind_begins_part k ≡ true
name_is_part (kind.NamePart name) h = refl
name_is_part _ h = absurd cc

text_is_hole : (k : TokenKind) → kind_begins_text k ≡ true → kind_begins_hole k ≡ true
text_is_hole kind.OpenTemplate h = refl
text_is_hole _ h = h

hole_is_this : (k : TokenKind) → kind_begins_hole k ≡ true → kind_begins_this k ≡ true
hole_is_this kind.ThisPart h = refl
hole_is_this _ h = h

text_is_part : (k : TokenKind) → kind_begins_text k ≡ true → kind_begins_part k ≡ true
text_is_part (kind.Run units) h = refl
text_is_part (kind.Escape unit) h = refl
text_is_part kind.Dollar h = refl
text_is_part _ h = absurd cc

module _ (m : ℕ) {p : Parser Token ExpressionTree} {L : ExpressionTree → List Token → List Token → Type 0} (E : IsExpressionRead (some_levels m) p L kind_begins_expression) where
  hole_begins : (test : TokenKind → Bool) → test kind.OpenTemplate ≡ true → ((k : TokenKind) → kind_begins_text k ≡ true → test k ≡ true) → Begins test (Either (Seq (IsToken is_open_template) (λ _. Seq (IsPast L) (λ a. Seq (IsPast (IsToken (is_sign sign.CloseBrace))) (λ _. IsNothing (e.hole a))))) (Seq (IsMeant text_of) (λ t. IsNothing (e.text t.1))))
  hole_begins test open_template more = either_begins_with test (seq_begins_with test (token_begins_with is_open_template test (λ t h. at_template test open_template t.kind h))) (seq_begins_with test (text_begins test more))

  this_begins : (test : TokenKind → Bool) → test kind.ThisPart ≡ true → test kind.OpenTemplate ≡ true → ((k : TokenKind) → kind_begins_text k ≡ true → test k ≡ true)
      → Begins test (Either (If (some_levels m) (Seq (IsToken is_this_part) (λ _. IsNothing e.this_part)) Empty) (Either (Seq (IsToken is_open_template) (λ _. Seq (IsPast L) (λ a. Seq (IsPast (IsToken (is_sign sign.CloseBrace))) (λ _. IsNothing (e.hole a))))) (Seq (IsMeant text_of) (λ t. IsNothing (e.text t.1)))))
  this_begins test this template more = either_begins_with test (only_begins test (some_levels m) (seq_begins_with test (token_begins_with is_this_part test (λ t h. at_this test this t.kind h)))) (hole_begins test template more)

  -- '$' ID | '$' 'this' | '${' n expr n '}' | text
  pub string_part : Part (part_of m p) (IsPart m L) Anything (λ _. Anything)
  string_part = on_only (a_token (kind.NamePart [])) refl (some_levels m) (λ h t. made (e.name_part (name_of t)) (λ tail h. tt))
      (on_only (a_token kind.ThisPart) refl (some_levels m) (λ h t. made e.this_part (λ tail h. tt))
      (on_room (a_token kind.OpenTemplate) refl (some_levels m)
      (λ h _. past_then (begins_no_line kind_begins_expression refl E.begins) (read_part E h closes_halts (λ ts s. tt)) (λ a. sign_past_then sign.CloseBrace (λ tail. brace_ends) (λ _. made (e.hole a) (λ tail h. tt))))
      (λ h t b u rest s. E.none h s.value s.phrase.back (s.back ++ rest) s.phrase.phrase')
      (then (meant_part text_of (a_token kind.Dollar) text.Dollar refl {F = Anything} {N = Anything} (λ tail h. tt)) (λ t. made (e.text t.1) (λ tail h. tt)))
      (begins_no kind_begins_text is_open_template (λ t h. text_no_hole t.kind h) (seq_begins_with kind_begins_text (text_begins kind_begins_text (λ k h. h)))))
      (begins_no kind_begins_hole is_this_part (λ t h. hole_no_this t.kind h) (hole_begins kind_begins_hole refl (λ k h. text_is_hole k h))))
      (begins_no kind_begins_this is_name_part (λ t h. this_no_name t.kind h) (this_begins kind_begins_this refl refl (λ k h. hole_is_this k (text_is_hole k h))))

  pub string_part_begins : Begins kind_begins_part (IsPart m L)
  string_part_begins = either_begins_with kind_begins_part (only_begins kind_begins_part (some_levels m) (seq_begins_with kind_begins_part (token_begins_with is_name_part kind_begins_part (λ t h. name_is_part t.kind h))))
      (this_begins kind_begins_part refl refl (λ k h. text_is_part k h))

levels_left : (k m n : ℕ) → m ≡ n → nat_le (k + 2) (suc n) ≡ true → some_levels m ≡ true
levels_left k zero n same h = absurd (omega (arith, same, leb-true (k + 2) (suc n) h))
levels_left k (suc m) n same h = refl

module _ (n : ℕ) (parsers : Parsers) (phrases : Phrases) (R : ReadsBelow parsers phrases) (room : parsers.levels ≡ n) (at : Context) where
  first_part : Part (part_of parsers.levels (parsers.disjunction at)) (IsPart phrases.levels (phrases.disjunction at)) Anything (λ _. Anything)
  first_part = subst (λ (m : ℕ). Part (part_of parsers.levels (parsers.disjunction at)) (IsPart m (phrases.disjunction at)) Anything (λ _. Anything)) R.same (string_part parsers.levels (R.disjunction at))

  -- there is room for one more part
  abbrev next_left : List PartTree → Bool
  next_left [] = true
  next_left (q ∷ ps) = nat_le (parts_levels (parts_of (q ∷ ps)) + 2) (suc n)

  further_part : (b : Bool) → b ≡ true → some_levels parsers.levels ≡ true → Part (part_if (suc n) parsers at b) (If b (phrases.part at) Empty) Anything (λ _. Anything)
  further_part true h l = same_part (λ a u rest x. inl (refl, x)) (λ a u rest x. elim x [ inl y ↦ y.1 | inr y ↦ absurd y.1 ]) (read_part (R.string_part at) l (λ tail s. s) (λ ts s. tt))
  further_part false h l = absurd (let e : false ≡ true = h in cc)

  next_read : (ps : List PartTree) → next_left ps ≡ true → Part (next_part (suc n) parsers at ps) (IsNextPart (suc n) phrases at ps) Anything (λ _. Anything)
  next_read [] h = first_part
  next_read (q ∷ ps) h = further_part (next_left (q ∷ ps)) h (levels_left (parts_levels (parts_of (q ∷ ps))) parsers.levels n room h)

  no_next : (ps : List PartTree) → next_left ps ≡ false → (c : Cursor Token) → next_part (suc n) parsers at ps c ≡ Err (further c.rest c.far)
  no_next [] h c = absurd (let e : true ≡ false = h in cc)
  no_next (q ∷ ps) h c = rw h refl

  none_next : (ps : List PartTree) → next_left ps ≡ false → (a : PartTree) (u rest : List Token) → IsNextPart (suc n) phrases at ps a u rest → ⊥
  none_next [] h a u rest l = absurd (let e : true ≡ false = h in cc)
  none_next (q ∷ ps) h a u rest (inl x) = let e : true ≡ false = sym x.0 ∙ h in absurd cc
  none_next (q ∷ ps) h a u rest (inr x) = absurd x.1

  next_begins : (ps : List PartTree) → Begins kind_begins_part (IsNextPart (suc n) phrases at ps)
  next_begins [] = subst (λ (m : ℕ). Begins kind_begins_part (IsPart m (phrases.disjunction at))) R.same (string_part_begins parsers.levels (R.disjunction at))
  next_begins (q ∷ ps) = only_begins kind_begins_part (next_left (q ∷ ps)) (R.string_part at).begins

  turn_part : (start : Pos) (ps : List PartTree) → Part (part_turn (suc n) parsers at start ps) (PartTurn (suc n) phrases at start ps) Anything (λ _. Anything)
  turn_part start ps = on_left (a_token kind.CloseQuote) refl (next_left ps)
      (λ h. (then (next_read ps h) (λ q. made {F = Anything} {N = λ _. Anything} (inl (ps ++ q ∷ [])) (λ tail s. tt))).correct)
      (λ h c. rw (no_next ps h c) refl) (λ h b u rest s. none_next ps h s.value s.front (s.back ++ rest) s.phrase)
      (λ _. made (inr (e.template start (parts_of ps))) (λ tail s. tt)) (begins_no kind_begins_part is_close_quote (λ t h. part_no_quote t.kind h) (seq_begins_with kind_begins_part (next_begins ps))) (λ ts. tt)

  turn_eats : (start : Pos) (ps qs : List PartTree) (u rest : List Token) → PartTurn (suc n) phrases at start ps (inl qs) u rest → 0 < length u
  turn_eats start ps qs u rest (inl s) = let e : inl qs ≡ inr (e.template start (parts_of ps)) = s.phrase'.value in absurd cc
  turn_eats start ps qs u rest (inr s) = seq_eats (begins_eats kind_begins_part (next_begins ps)) (inl qs) u rest s

  template_ends : (start : Pos) (ps : List PartTree) (tail : List Token) → Loop (PartTurn (suc n) phrases at start) ps (e.template start (parts_of ps)) (a_token kind.CloseQuote ∷ []) tail
  template_ends start ps tail = ends (inl (record { value = a_token kind.CloseQuote; front = a_token kind.CloseQuote ∷ []; back = []; is = refl; phrase = record { passes = refl; one = refl }; phrase' = record { value = refl; none = refl } }))

  -- part* '"'
  pub template_part : (start : Pos) → Part (repeat (part_turn (suc n) parsers at start) []) (Loop (PartTurn (suc n) phrases at start) []) Anything (λ _. Closes)
  template_part start = record {
    correct = repeat_correct (part_turn (suc n) parsers at start) (PartTurn (suc n) phrases at start) Any (λ _. Anything) Any (λ _. Closes) (λ ps. (turn_part start ps).correct) (turn_eats start) (λ y b u rest l g. tt) (λ b rest g. tt) (λ b rest h. tt)
        (λ ps qs u l. record { whole = e.template start (parts_of qs); tokens = a_token kind.CloseQuote ∷ []; phrase = λ tail h. (template_ends start qs tail, tt) }) [];
    whole = e.template start (parts_of []);
    tokens = a_token kind.CloseQuote ∷ [];
    phrase = λ tail h. (template_ends start [] tail, tt);
  }
