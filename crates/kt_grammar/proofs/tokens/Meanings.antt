-- Tokens that stand for something as parts of productions.
use Rattle.std.proofs.Common.{
  ◌≡◌,
  ◌<◌,
  not,
  ◌||◌,
  inl,
  inr,
  Bool,
  true,
  false,
  List,
  [],
  ◌∷◌,
  ◌++◌,
  length,
  Option,
  None,
  Some,
  refl,
  sym,
  ap,
  ◌∙◌,
  arith,
  length-append,
}
use Rattle.kt_base.specs.declared.refusals.Pos.{Pos}
use Rattle.kt_tree.specs.declared.tokens.Token.{Token}
use Rattle.kt_tree.specs.declared.tokens.TokenKind.{TokenKind}
use Rattle.kt_tree.specs.declared.tokens.TokenKind.TheVariants as kind
use Rattle.kt_tree.specs.declared.tokens.Sign.{Sign}
use Rattle.kt_tree.specs.declared.tokens.Sign.TheVariants as sign
use Rattle.kt_tree.specs.Tokens.{kind_is_new_line, is_new_line, is_sign}
use Rattle.kt_grammar_parsers.specs.Parsers.{first, ◌>>◌, skip}
use Rattle.kt_grammar_parsers.specs.Phrases.{IsSkipped, Seq, NotReads}
use Rattle.kt_grammar.specs.Terminals.{Meaning}
use Rattle.kt_grammar.specs.Words.{IsMeant}
use Rattle.kt_grammar.specs.Readers.{meant}
use Rattle.kt_grammar.proofs.tokens.Meant.{meant_correct}
use Rattle.kt_grammar_parsers.proofs.Steps.{truth}
use Rattle.kt_grammar.proofs.tokens.Closing.{is_closing, each_closing, not_goes_on, kind_sign}
use Rattle.kt_grammar.proofs.tokens.Begins.{of_kind}
use Rattle.kt_grammar.proofs.parts.Below.{goes_past, Halts}
use Rattle.kt_grammar.proofs.tokens.Distinct.{kind_new_line, not_true, none_is_some}
use Rattle.kt_grammar.proofs.parts.Sequences.{Part, Anything, Closes, past, not_past}

abbrev pub token_of : Pos → TokenKind → Token
token_of at k = record { kind = k; pos = at }

-- what a token of this kind stands for
abbrev pub NothingAt : {A : Type 0} → Meaning A → TokenKind → Type 0
NothingAt of k = (at : Pos) → of (token_of at k) ≡ None

-- no token that may follow a name stands for something, nor does a line's end
abbrev pub IsOperator : {A : Type 0} → Meaning A → Type 0
IsOperator of = NothingAt of kind.NewLine × NothingAt of kind.End × NothingAt of (kind.Sign sign.CloseParenthesis) × NothingAt of (kind.Sign sign.CloseBracket) × NothingAt of (kind.Sign sign.CloseBrace) × NothingAt of (kind.Sign sign.Comma) × NothingAt of (kind.Sign sign.Range) × NothingAt of (kind.Sign sign.Arrow)

-- what depends on a token's kind alone is x at each token that may follow a name
pub each_halting : {X : Type 0} (of : TokenKind → X) (x : X) → of kind.End ≡ x → of (kind.Sign sign.CloseParenthesis) ≡ x → of (kind.Sign sign.CloseBracket) ≡ x → of (kind.Sign sign.CloseBrace) ≡ x → of (kind.Sign sign.Comma) ≡ x → of (kind.Sign sign.Range) ≡ x → of (kind.Sign sign.Arrow) ≡ x
    → (t : Token) → goes_past t ≡ false → of t.kind ≡ x
each_halting of x e0 e1 e2 e3 e4 e5 e6 t h = elim (truth (is_closing t)) [
  | inl y ↦ each_closing of x e0 e1 e2 e3 e4 e5 t y
  | inr n ↦ elim (truth (is_sign sign.Arrow t)) [ inl y ↦ ap of (kind_sign sign.Arrow t.kind y) ∙ e6 | inr m ↦ absurd (let e : false ≡ true = sym h ∙ ap (λ (z : Bool). not (z || is_sign sign.Arrow t)) n ∙ ap not m in cc) ]
]

-- a test of a token's kind that none of them passes
pub halts_no : (test : TokenKind → Bool) → test kind.End ≡ false → test (kind.Sign sign.CloseParenthesis) ≡ false → test (kind.Sign sign.CloseBracket) ≡ false → test (kind.Sign sign.CloseBrace) ≡ false → test (kind.Sign sign.Comma) ≡ false → test (kind.Sign sign.Range) ≡ false → test (kind.Sign sign.Arrow) ≡ false
    → (tail : List Token) → Halts tail → first (of_kind test) tail ≡ false
halts_no test e0 e1 e2 e3 e4 e5 e6 [] h = refl
halts_no test e0 e1 e2 e3 e4 e5 e6 (t ∷ tail) h = each_halting test false e0 e1 e2 e3 e4 e5 e6 t h

pub closes_halts : (tail : List Token) → Closes tail → Halts tail
closes_halts [] h = refl
closes_halts (t ∷ tail) h = ap (λ (z : Bool). not (z || is_sign sign.Arrow t)) (not_goes_on t h)

module _ {A : Type 0} (of : Meaning A) where
  pub meant_eats : (found : Token × A) (u rest : List Token) → IsMeant of found u rest → 0 < length u
  meant_eats found u rest l = omega (arith, ap length l.one)

  pub meant_no_line : NothingAt of kind.NewLine → (found : Token × A) (u rest : List Token) → IsMeant of found u rest → first is_new_line (u ++ rest) ≡ false
  meant_no_line none found u rest l = ap (λ (z : List Token). first is_new_line (z ++ rest)) l.one
      ∙ not_true (is_new_line found.0) (λ y. none_is_some (of found.0) found.1 (ap (λ (k : TokenKind). of (token_of found.0.pos k)) (kind_new_line found.0.kind y) ∙ none found.0.pos) l.means)

  pub meant_absent : IsOperator of → (tail : List Token) → Halts tail → NotReads (IsMeant of) tail
  meant_absent none tail h found u rest is l =
      let begins : tail ≡ found.0 ∷ rest = is ∙ ap (λ (z : List Token). z ++ rest) l.one in
      let at = found.0.pos in
      none_is_some (of found.0) found.1 (each_halting (λ (k : TokenKind). of (token_of at k)) None (none.1 at) (none.2 at) (none.3 at) (none.4 at) (none.5 at) (none.6 at) (none.7 at) found.0 (sym (ap (first goes_past) begins) ∙ h)) l.means

  pub meant_past_absent : IsOperator of → (tail : List Token) → Halts tail → NotReads (Seq (IsSkipped is_new_line) (λ _. IsMeant of)) tail
  meant_past_absent none tail h = not_past is_new_line (IsMeant of) tail (halts_no kind_is_new_line refl refl refl refl refl refl refl tail h) (meant_absent none tail h)

  pub past_meant_eats : (found : Token × A) (u rest : List Token) → Seq (IsSkipped is_new_line) (λ _. IsMeant of) found u rest → 0 < length u
  past_meant_eats found u rest s = omega (arith, ap length s.is, length-append s.front s.back, ap length s.phrase'.one)

  module _ (witness : Token) (value : A) (stands : of witness ≡ Some value) where
    pub meant_part : {F N : List Token → Type 0} → ((tail : List Token) → N tail → F (witness ∷ tail)) → Part (meant of) (IsMeant of) F (λ _. N)
    meant_part {N = N} asked = record { correct = meant_correct of witness value stands (λ _. N); whole = (witness, value); tokens = witness ∷ []; phrase = λ tail h. (record { means = stands; one = refl }, asked tail h) }

    pub past_meant_part : NothingAt of kind.NewLine → Part (skip is_new_line >> meant of) (Seq (IsSkipped is_new_line) (λ _. IsMeant of)) Anything (λ _. Anything)
    past_meant_part none = past (meant_no_line none) (meant_part (λ tail h. tt))
