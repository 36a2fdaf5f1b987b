-- One alternative more, which a kind of token begins that begins no other.
use Rattle.std.proofs.Common.{◌≡◌, Bool, true, false, ◌||◌, List, ◌++◌, ap, ◌∙◌, inl, inr}
use Rattle.kt_tree.specs.declared.tokens.Token.{Token}
use Rattle.kt_tree.specs.declared.tokens.TokenKind.{TokenKind}
use Rattle.kt_tree.specs.declared.tokens.TokenKind.TheVariants as kind
use Rattle.kt_tree.specs.declared.tokens.Keyword.{Keyword}
use Rattle.kt_tree.specs.declared.tokens.Sign.{Sign}
use Rattle.kt_tree.specs.Tokens.{kind_is_sign, kind_is_keyword}
use Rattle.kt_grammar_parsers.specs.Parsers.{Parser, first, on}
use Rattle.kt_grammar_parsers.specs.Phrases.{IsToken, Seq, Either, If}
use Rattle.kt_grammar.specs.Words.{Empty}
use Rattle.kt_grammar.specs.Readers.{on_if}
use Rattle.kt_grammar.proofs.parts.Sequences.{Part, Anything, Closes}
use Rattle.kt_grammar.proofs.tokens.Closing.{kind_sign}
use Rattle.kt_grammar.proofs.tokens.Distinct.{kind_keyword}
use Rattle.kt_grammar.proofs.tokens.Begins.{
  of_kind,
  Begins,
  first_yes,
  begins_no,
  seq_begins_with,
  token_begins_with,
  either_begins_with,
}
use Rattle.kt_grammar.proofs.tokens.Keywords.{or_left, or_right, or_either}
use Rattle.kt_grammar.proofs.parts.Productions.{Production, as_part}
use Rattle.kt_grammar.proofs.parts.Left.{on_room, on_only}
use Rattle.kt_grammar.proofs.parts.Firsts.{only_begins}

-- one kind or the other
abbrev pub or_kind : (TokenKind → Bool) → (TokenKind → Bool) → TokenKind → Bool
or_kind key test k = key k || test k

-- what holds of both
pub kind_or : (key test wide : TokenKind → Bool) → ((k : TokenKind) → key k ≡ true → wide k ≡ true) → ((k : TokenKind) → test k ≡ true → wide k ≡ true) → (k : TokenKind) → or_kind key test k ≡ true → wide k ≡ true
kind_or key test wide one more k h = elim (or_either (key k) (test k) h) [ inl y ↦ one k y | inr t ↦ more k t ]

pub at_kind_sign : (s : Sign) (wide : TokenKind → Bool) → wide (kind.Sign s) ≡ true → (k : TokenKind) → kind_is_sign s k ≡ true → wide k ≡ true
at_kind_sign s wide e k h = ap wide (kind_sign s k h) ∙ e

pub at_kind_keyword : (w : Keyword) (wide : TokenKind → Bool) → wide (kind.Keyword w) ≡ true → (k : TokenKind) → kind_is_keyword w k ≡ true → wide k ≡ true
at_kind_keyword w wide e k h = ap wide (kind_keyword w k h) ∙ e

module _ {A : Type 0} (key : TokenKind → Bool) (witness : Token) (passes : key witness.kind ≡ true) {test : TokenKind → Bool} (distinct : (t : Token) → of_kind test t ≡ true → of_kind key t ≡ false) {other : Parser Token A} {M : A → List Token → List Token → Type 0} (Q : Production test other M) where
  key_begins : Begins (or_kind key test) (IsToken (of_kind key))
  key_begins = token_begins_with (of_kind key) (or_kind key test) (λ t h. or_left (key t.kind) (test t.kind) h)

  other_begins : Begins (or_kind key test) M
  other_begins a u rest m = first_yes (of_kind test) (of_kind (or_kind key test)) u (λ t h. or_right (key t.kind) (test t.kind) h) (Q.begins a u rest m)

  others : (a : A) (u rest : List Token) → M a u rest → first (of_kind key) (u ++ rest) ≡ false
  others = begins_no test (of_kind key) distinct Q.begins

  -- where there is room for it
  pub or_where_room : {go : Token → Parser Token A} {L : Token → A → List Token → List Token → Type 0} (b : Bool) → (b ≡ true → (t : Token) → Part (go t) (L t) Anything (λ _. Closes)) → (b ≡ false → (t : Token) (a : A) (u rest : List Token) → L t a u rest → ⊥) → Production (or_kind key test) (on_if b (of_kind key) go other) (Either (Seq (IsToken (of_kind key)) L) M)
  or_where_room b P none = record {
    correct = (on_room witness passes b P none (as_part Q) others).correct;
    phrase = record { whole = Q.phrase.whole; tokens = Q.phrase.tokens; phrase = λ tail h. inr (Q.phrase.phrase tail h) };
    name = Q.name;
    begins = either_begins_with (or_kind key test) (seq_begins_with (or_kind key test) key_begins) other_begins;
  }

  pub or_else : {go : Token → Parser Token A} {L : Token → A → List Token → List Token → Type 0} → ((t : Token) → Part (go t) (L t) Anything (λ _. Closes)) → Production (or_kind key test) (on (of_kind key) go other) (Either (Seq (IsToken (of_kind key)) L) M)
  or_else P = or_where_room true (λ h. P) (λ h. absurd (let e : true ≡ false = h in cc))

  -- where it is allowed
  pub or_where : {go : Token → Parser Token A} {L : Token → A → List Token → List Token → Type 0} (b : Bool) → (b ≡ true → (t : Token) → Part (go t) (L t) Anything (λ _. Closes)) → Production (or_kind key test) (on_if b (of_kind key) go other) (Either (If b (Seq (IsToken (of_kind key)) L) Empty) M)
  or_where b P = record {
    correct = (on_only witness passes b P (as_part Q) others).correct;
    phrase = record { whole = Q.phrase.whole; tokens = Q.phrase.tokens; phrase = λ tail h. inr (Q.phrase.phrase tail h) };
    name = Q.name;
    begins = either_begins_with (or_kind key test) (only_begins (or_kind key test) b (seq_begins_with (or_kind key test) key_begins)) other_begins;
  }
