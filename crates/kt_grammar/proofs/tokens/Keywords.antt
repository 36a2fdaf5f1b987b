-- A choice by a keyword, whose other side begins with other tokens.
use Rattle.std.proofs.Common.{◌≡◌, Bool, true, false, ◌||◌, List, [], ◌∷◌, ◌++◌, refl, ap, ◌∙◌, inl, inr, ◌⊎◌}
use Rattle.kt_tree.specs.declared.tokens.Token.{Token}
use Rattle.kt_tree.specs.declared.tokens.TokenKind.{TokenKind}
use Rattle.kt_tree.specs.declared.tokens.TokenKind.TheVariants as kind
use Rattle.kt_tree.specs.declared.tokens.Keyword.{Keyword}
use Rattle.kt_tree.specs.Tokens.{kind_is_keyword, is_keyword}
use Rattle.kt_grammar_parsers.specs.Parsers.{Parser, first, on}
use Rattle.kt_grammar_parsers.specs.Phrases.{IsToken, Seq, Either}
use Rattle.kt_grammar.specs.Readers.{on_if}
use Rattle.kt_grammar_parsers.proofs.Steps.{truth}
use Rattle.kt_grammar.proofs.parts.Sequences.{Part, Anything, Closes}
use Rattle.kt_grammar.proofs.parts.Choices.{same_part, other_part, on_part, on_if_part}
use Rattle.kt_grammar.proofs.tokens.Begins.{
  of_kind,
  Begins,
  begins_no,
  first_yes,
  seq_begins_with,
  token_begins_with,
  either_begins_with,
}
use Rattle.kt_grammar.proofs.tokens.Distinct.{kind_keyword, no_keyword}
use Rattle.kt_grammar.proofs.tokens.Witnesses.{a_keyword, keyword_is}
use Rattle.kt_grammar.proofs.parts.Productions.{Production, as_part}

-- this keyword, or what passes
abbrev pub or_keyword : Keyword → (TokenKind → Bool) → TokenKind → Bool
or_keyword w test k = kind_is_keyword w k || test k

pub or_left : (a b : Bool) → a ≡ true → a || b ≡ true
or_left a b h = ap (λ (z : Bool). z || b) h

pub or_right : (a b : Bool) → b ≡ true → a || b ≡ true
or_right true b h = refl
or_right false b h = h

pub or_either : (a b : Bool) → a || b ≡ true → (a ≡ true) ⊎ (b ≡ true)
or_either true b h = inl refl
or_either false b h = inr h

-- what holds of the keyword and of what passes
pub keyword_or : (w : Keyword) (test wide : TokenKind → Bool) → wide (kind.Keyword w) ≡ true → ((k : TokenKind) → test k ≡ true → wide k ≡ true) → (k : TokenKind) → or_keyword w test k ≡ true → wide k ≡ true
keyword_or w test wide e more k h = elim (or_either (kind_is_keyword w k) (test k) h) [ inl y ↦ ap wide (kind_keyword w k y) ∙ e | inr t ↦ more k t ]

-- more tests are passed
pub wider : {A : Type 0} {p : Parser Token A} {L : A → List Token → List Token → Type 0} (test wide : TokenKind → Bool) → ((k : TokenKind) → test k ≡ true → wide k ≡ true) → Production test p L → Production wide p L
wider test wide more P = record { correct = P.correct; phrase = P.phrase; name = P.name; begins = λ a u rest l. first_yes (of_kind test) (of_kind wide) u (λ t h. more t.kind h) (P.begins a u rest l) }

-- the same phrases, by another grammar
pub same_production : {A : Type 0} {test : TokenKind → Bool} {p : Parser Token A} {L M : A → List Token → List Token → Type 0} → ((a : A) (u rest : List Token) → L a u rest → M a u rest) → ((a : A) (u rest : List Token) → M a u rest → L a u rest) → Production test p L → Production test p M
same_production to from P = record { correct = (same_part to from (as_part P)).correct; phrase = record { whole = P.phrase.whole; tokens = P.phrase.tokens; phrase = λ tail h. to P.phrase.whole P.phrase.tokens tail (P.phrase.phrase tail h) }; name = P.name; begins = λ a u rest m. P.begins a u rest (from a u rest m) }

module _ {A : Type 0} (w : Keyword) {test : TokenKind → Bool} (distinct : test (kind.Keyword w) ≡ false) {other : Parser Token A} {M : A → List Token → List Token → Type 0} (Q : Production test other M) where
  other_begins : Begins (or_keyword w test) M
  other_begins a u rest m = first_yes (of_kind test) (of_kind (or_keyword w test)) u (λ t h. or_right (kind_is_keyword w t.kind) (test t.kind) h) (Q.begins a u rest m)

  -- where a level is left, what the keyword begins, or the other
  pub keyword_production : {go : Token → Parser Token A} {L : Token → A → List Token → List Token → Type 0} (b : Bool) → (b ≡ true → (t : Token) → Part (go t) (L t) Anything (λ _. Closes)) → (b ≡ false → (t : Token) (a : A) (u rest : List Token) → L t a u rest → ⊥) → Production (or_keyword w test) (on_if b (is_keyword w) go other) (Either (Seq (IsToken (is_keyword w)) L) M)
  keyword_production {go = go} b P none = record {
    correct = (on_if_part b (is_keyword w) go other (λ h. on_part (a_keyword w) (keyword_is w) (P h) (as_part Q) (begins_no test (is_keyword w) (no_keyword test w distinct) Q.begins)) (λ h. other_part (λ a u rest s. none h s.value a s.back rest s.phrase') (as_part Q))).correct;
    phrase = record { whole = Q.phrase.whole; tokens = Q.phrase.tokens; phrase = λ tail h. inr (Q.phrase.phrase tail h) };
    name = Q.name;
    begins = either_begins_with (or_keyword w test) (seq_begins_with (or_keyword w test) (token_begins_with (is_keyword w) (or_keyword w test) (λ t h. or_left (kind_is_keyword w t.kind) (test t.kind) h))) other_begins;
  }
