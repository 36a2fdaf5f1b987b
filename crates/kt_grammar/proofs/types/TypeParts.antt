-- A type as a part of other productions.
use Rattle.std.proofs.Common.{◌≡◌, ℕ, zero, suc, Bool, true, false, List, [], ◌∷◌, ◌++◌, refl, sym, ap, ◌∙◌, inl, inr}
use Rattle.kt_tree.specs.declared.tokens.Token.{Token}
use Rattle.kt_tree.specs.declared.tokens.TokenKind.{TokenKind}
use Rattle.kt_tree.specs.declared.tokens.TokenKind.TheVariants as kind
use Rattle.kt_tree.specs.declared.tokens.Sign.{Sign}
use Rattle.kt_tree.specs.declared.tokens.Sign.TheVariants as sign
use Rattle.kt_tree.specs.declared.tokens.SoftKeyword.TheVariants as soft
use Rattle.kt_tree.specs.Tokens.{
  same_sign,
  kind_is_sign,
  kind_is_identifier,
  kind_is_soft_keyword,
  is_sign,
  is_identifier,
  is_soft_keyword,
}
use Rattle.kt_tree.specs.Types.{TypeTree}
use Rattle.kt_grammar_parsers.specs.Parsers.{first, some_levels}
use Rattle.kt_grammar_parsers.specs.Phrases.{IsToken, IsNothing, IsAhead, Seq, Either, FirstOf, MaybeCommaList}
use Rattle.kt_grammar.specs.Terminals.{name_of}
use Rattle.kt_grammar.specs.Types.{
  IsType,
  IsTypeOver,
  IsTypeArguments,
  IsNamedType,
  IsMaybeNullable,
  IsBehindTypes,
  IsSuspend,
  IsSuspendType,
  IsInParentheses,
}
use Rattle.kt_grammar.specs.Readers.{type_parser}
use Rattle.kt_grammar_parsers.proofs.Correct.{Correct, below, correct, same_language}
use Rattle.kt_grammar_parsers.proofs.Steps.{Any}
use Rattle.kt_grammar_parsers.proofs.On.{Phrase}
use Rattle.kt_grammar_parsers.proofs.Optional.{seq_begins}
use Rattle.kt_grammar.proofs.types.TypesRead.{a_name, a_type, name_type, TypeEnds, types_correct, type_phrase}
use Rattle.kt_grammar.proofs.tokens.Closing.{goes_on, closed_ends_type, kind_sign}
use Rattle.kt_grammar.proofs.parts.Below.{Halts}
use Rattle.kt_grammar.proofs.tokens.Meanings.{halts_no}
use Rattle.kt_grammar.proofs.parts.Sequences.{Part, Anything, Closes, part_of}

kind_identifier : (test : TokenKind → Bool) → ((name : List ℕ) → test (kind.Identifier name) ≡ false) → (k : TokenKind) → kind_is_identifier k ≡ true → test k ≡ false
kind_identifier test none (kind.Identifier name) h = none name
kind_identifier test none _ h = absurd cc

kind_soft : (w : _) (k : TokenKind) → kind_is_soft_keyword w k ≡ true → kind_is_identifier k ≡ true
kind_soft w (kind.Identifier name) h = refl
kind_soft w _ h = absurd cc

-- what is no name and no `(` begins no type
module _ (test : TokenKind → Bool) (no-open : test (kind.Sign sign.OpenParenthesis) ≡ false) (no-name : (name : List ℕ) → test (kind.Identifier name) ≡ false) where
  abbrev Starts : List Token → Type 0
  Starts ts = first (λ (t : Token). test t.kind) ts ≡ false

  open_starts : (t : Token) (u rest : List Token) → IsToken (is_sign sign.OpenParenthesis) t u rest → Starts (u ++ rest)
  open_starts t u rest l = ap (λ (z : List Token). first (λ (q : Token). test q.kind) (z ++ rest)) l.one ∙ ap test (kind_sign sign.OpenParenthesis t.kind l.passes) ∙ no-open

  name_starts : (t : Token) (u rest : List Token) → IsToken is_identifier t u rest → Starts (u ++ rest)
  name_starts t u rest l = ap (λ (z : List Token). first (λ (q : Token). test q.kind) (z ++ rest)) l.one ∙ kind_identifier test no-name t.kind l.passes

  suspend_starts : (t : Token) (u rest : List Token) → IsToken (is_soft_keyword soft.Suspend) t u rest → Starts (u ++ rest)
  suspend_starts t u rest l = ap (λ (z : List Token). first (λ (q : Token). test q.kind) (z ++ rest)) l.one ∙ kind_identifier test no-name t.kind (kind_soft soft.Suspend t.kind l.passes)

  module _ (Inner : TypeTree → List Token → List Token → Type 0) where
    plain_starts : (t : TypeTree) (u rest : List Token) → Either (IsInParentheses Inner) (Seq (IsNamedType Inner) (IsMaybeNullable Inner)) t u rest → Starts (u ++ rest)
    plain_starts t u rest (inl s) = seq_begins (λ (q : Token). test q.kind) (IsToken (is_sign sign.OpenParenthesis)) (λ _. Seq (MaybeCommaList (is_sign sign.Comma) (is_sign sign.CloseParenthesis) Inner) (IsBehindTypes Inner)) false open_starts t u rest s
    plain_starts t u rest (inr s) = seq_begins (λ (q : Token). test q.kind) (IsNamedType Inner) (IsMaybeNullable Inner) false
        (λ a v more m. seq_begins (λ (q : Token). test q.kind) (IsToken is_identifier) (λ x. FirstOf (IsTypeArguments Inner) (λ ts. IsNothing _) (IsNothing _)) false name_starts a v more m) t u rest s

    type_over_starts : (deep : Bool) (t : TypeTree) (u rest : List Token) → IsTypeOver Inner deep t u rest → Starts (u ++ rest)
    type_over_starts deep t u rest (inl x) = elim x.1 [
      | inl s ↦ seq_begins (λ (q : Token). test q.kind) (IsSuspend Inner) (λ _. IsSuspendType Inner) false (λ a v more m. seq_begins (λ (q : Token). test q.kind) (IsToken (is_soft_keyword soft.Suspend)) (λ _. IsAhead (is_sign sign.OpenParenthesis)) false suspend_starts a v more m) t u rest s
      | inr m ↦ plain_starts t u rest m.0
    ]
    type_over_starts deep t u rest (inr x) = plain_starts t u rest x.1

  pub type_starts : (n : ℕ) (t : TypeTree) (u rest : List Token) → IsType n t u rest → first (λ (q : Token). test q.kind) (u ++ rest) ≡ false
  unfolding IsType
  type_starts zero t u rest l = absurd l
  type_starts (suc n) t u rest l = type_over_starts (IsType n) (some_levels n) t u rest l

halts_less : (tail : List Token) → Halts tail → first (is_sign sign.Less) tail ≡ false
unfolding same_sign
halts_less = halts_no (kind_is_sign sign.Less) refl refl refl refl refl refl refl

halts_question : (tail : List Token) → Halts tail → first (is_sign sign.Question) tail ≡ false
unfolding same_sign
halts_question = halts_no (kind_is_sign sign.Question) refl refl refl refl refl refl refl

pub type_part : (n : ℕ) → Part (type_parser (suc n)) (IsType (suc n)) Anything (λ _. Closes)
unfolding IsType
type_part n =
    let s = type_phrase (IsType n) (some_levels n) in
    part_of (correct (type_parser (suc n)) (IsType (suc n)) Any (λ _. Closes) (λ m. same_language m (type_parser (suc n)) (IsType (suc n)) (IsType (suc n)) Any Any TypeEnds (λ _. Closes) (λ a u rest l. l) (λ a u rest l g. l) (λ a rest g. g) (λ a rest h. closed_ends_type a rest h)
    (below m (type_parser (suc n)) (IsType (suc n)) Any TypeEnds (types_correct n))))
    (record { whole = s.whole; tokens = s.tokens; phrase = λ tail h. s.phrase tail (closed_ends_type s.whole tail h) })

-- a name, also where `->` follows
pub halting_type : (n : ℕ) → Phrase (IsType (suc n)) (λ _. Halts)
unfolding IsType
halting_type n = record { whole = a_type (IsType n); tokens = a_name ∷ []; phrase = λ tail h. name_type (IsType n) (some_levels n) tail (halts_less tail h) (halts_question tail h) }
