-- A part that is tried and without which the next token is refused.
use Rattle.std.proofs.Common.{◌≡◌, ◌≤◌, List, [], ◌++◌, length, Err, sym, ap, ◌∙◌, arith, inl, inr}
use Rattle.kt_tree.specs.declared.tokens.Token.{Token}
use Rattle.kt_grammar_parsers.specs.Parsers.{Cursor, Outcome, Parser, further, and_then, ◌>>=◌, tried, attempt}
use Rattle.kt_grammar_parsers.specs.Phrases.{Seq, FirstOf}
use Rattle.kt_grammar.specs.Words.{Empty}
use Rattle.kt_grammar.specs.Readers.{refuse}
use Rattle.kt_grammar_parsers.proofs.Ends.{Tied, further_cases, same_end, tied_move}
use Rattle.kt_grammar_parsers.proofs.Correct.{Refusal, below, correct, same_parser, same_language, which}
use Rattle.kt_grammar_parsers.proofs.Steps.{Any}
use Rattle.kt_grammar.proofs.parts.Sequences.{Part, then}

module _ {A B : Type 0} {p : Parser Token A} {go : A → Parser Token B} {K : A → List Token → List Token → Type 0} {L : A → B → List Token → List Token → Type 0} {D F' : List Token → Type 0} {N : B → List Token → Type 0}
    (P : Part p K D (λ _. F')) (Q : (a : A) → Part (go a) (L a) F' N) where
  -- what was refused at the place where the part begins, or behind it, is refused again
  same_place : (c : Cursor Token) (k : List Token) → Tied c → Refusal K (λ _. F') c k → length c.rest ≤ length k → c.rest ≡ k
  same_place c k t f le = elim f.far [
    | inl old ↦ same_end t.before t.before' c.rest k (sym t.is ∙ t.is' ∙ ap (λ (z : List Token). t.before' ++ z) (sym old)) (omega (arith, le, f.inside))
    | inr r ↦ same_end [] r.read c.rest k r.is (omega (arith, le, f.inside))
  ]

  refused : (c : Cursor Token) (k : List Token) → Tied c → Refusal K (λ _. F') c k → further c.rest k ≡ k
  refused c k t f = elim (further_cases c.rest k) [
    | inl x ↦ x.1 ∙ same_place c k t f x.0
    | inr x ↦ x.1
  ]

  as_bind : (c : Cursor Token) → Tied c → attempt p go refuse c ≡ (p >>= go) c
  unfolding attempt
  as_bind c t = elim (which (p c)) [
    | inl o ↦ ap (λ (x : Outcome Token A). tried x go refuse c.rest) o.1 ∙ sym (ap (λ (x : Outcome Token A). and_then x go) o.1)
    | inr o ↦ ap (λ (x : Outcome Token A). tried x go refuse c.rest) o.1 ∙ ap Err (refused c o.0 t (P.correct.failed c o.0 t o.1)) ∙ sym (ap (λ (x : Outcome Token A). and_then x go) o.1)
  ]

  both : Part (p >>= go) (Seq K L) D N
  both = then P Q

  pub or_refuse_part : Part (attempt p go refuse) (FirstOf K L Empty) D N
  or_refuse_part = record {
    correct = correct (attempt p go refuse) (FirstOf K L Empty) Any N (λ n. same_parser n (p >>= go) (attempt p go refuse) (FirstOf K L Empty) Any N as_bind tied_move
        (same_language n (p >>= go) (Seq K L) (FirstOf K L Empty) Any Any N N (λ b u rest s. inl s) (λ b u rest f g. elim f [ inl s ↦ s | inr m ↦ absurd m.0 ]) (λ b rest g. g) (λ b rest h. h) (below n (p >>= go) (Seq K L) Any N both.correct)));
    whole = both.whole;
    tokens = both.tokens;
    phrase = λ tail h. let q = both.phrase tail h in (inl q.0, q.1);
  }
