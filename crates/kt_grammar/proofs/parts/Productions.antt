-- A production that is read exactly, with what a name alone is followed by and with what its phrases begin.
use Rattle.std.proofs.Common.{◌≡◌, Bool, true, false, List, [], ◌++◌, refl, sym, ap, ◌∙◌, inl, inr}
use Rattle.std.proofs.lemmas.List.{append-nil}
use Rattle.kt_tree.specs.declared.tokens.Token.{Token}
use Rattle.kt_tree.specs.declared.tokens.TokenKind.{TokenKind}
use Rattle.kt_tree.specs.declared.tokens.TokenKind.TheVariants as kind
use Rattle.kt_tree.specs.Tokens.{is_new_line, is_identifier}
use Rattle.kt_grammar_parsers.specs.Parsers.{Parser, first, ◌>>=◌}
use Rattle.kt_grammar_parsers.specs.Phrases.{Seq}
use Rattle.kt_grammar_parsers.proofs.Correct.{Correct}
use Rattle.kt_grammar_parsers.proofs.Steps.{Any}
use Rattle.kt_grammar_parsers.proofs.On.{Phrase}
use Rattle.kt_grammar.proofs.parts.Sequences.{Part, Anything, Closes, then, part_of}
use Rattle.kt_grammar.proofs.tokens.Begins.{Begins, begins_no, seq_begins_with}
use Rattle.kt_grammar.proofs.parts.Below.{Halts, IsRead, IsExpressionRead}
use Rattle.kt_grammar.proofs.tokens.Meanings.{closes_halts}
use Rattle.kt_grammar.proofs.tokens.Distinct.{no_new_line}

-- Whatever ends an expression may follow a phrase that was completed; `->` may follow one certain phrase too, a name.
pub record Production {A : Type 0} (test : TokenKind → Bool) (p : Parser Token A) (L : A → List Token → List Token → Type 0) : Type 0 where
  pub correct : Correct p L Any (λ _. Closes)
  pub phrase : Phrase L (λ _. Halts)
  pub name : first is_identifier phrase.tokens ≡ true
  pub begins : Begins test L

module _ {A : Type 0} {test : TokenKind → Bool} {p : Parser Token A} {L : A → List Token → List Token → Type 0} (P : Production test p L) where
  pub as_part : Part p L Anything (λ _. Closes)
  as_part = part_of P.correct (record { whole = P.phrase.whole; tokens = P.phrase.tokens; phrase = λ tail h. P.phrase.phrase tail (closes_halts tail h) })

  pub begins_no_line : test kind.NewLine ≡ false → (a : A) (u rest : List Token) → L a u rest → first is_new_line (u ++ rest) ≡ false
  begins_no_line e = begins_no test is_new_line (no_new_line test e) P.begins

  -- what goes on with it, or doesn't
  pub goes : {B : Type 0} {go : A → Parser Token B} {M : A → B → List Token → List Token → Type 0} → ((a : A) → Part (go a) (M a) Closes (λ _. Closes)) → (result : A → B) → ((a : A) (tail : List Token) → Halts tail → M a (result a) [] tail) → Production test (p >>= go) (Seq L M)
  goes {go = go} {M = M} Q result stops = record {
    correct = (then as_part Q).correct;
    phrase = record { whole = result P.phrase.whole; tokens = P.phrase.tokens; phrase = λ tail h. record { value = P.phrase.whole; front = P.phrase.tokens; back = []; is = sym (append-nil P.phrase.tokens); phrase = P.phrase.phrase tail h; phrase' = stops P.phrase.whole tail h } };
    name = P.name;
    begins = seq_begins_with test P.begins;
  }

  -- as it stands in what is known of a level
  pub as_read : (left : Bool) → left ≡ true → IsExpressionRead left p L test
  as_read left e = record { correct = λ h. P.correct; phrase = λ h. P.phrase; begins = P.begins; refuses = λ h. absurd (let i : true ≡ false = sym e ∙ h in cc); none = λ h. absurd (let i : true ≡ false = sym e ∙ h in cc) }

-- a part of the level below, where there is one
pub from_read : {A : Type 0} {test : TokenKind → Bool} {left : Bool} {p : Parser Token A} {L : A → List Token → List Token → Type 0} → IsExpressionRead left p L test → left ≡ true → Part p L Anything (λ _. Closes)
from_read R h = let s = R.phrase h in part_of (R.correct h) (record { whole = s.whole; tokens = s.tokens; phrase = λ tail c. s.phrase tail (closes_halts tail c) })
