-- What may follow the parts of a declaration, and parts that end there.
use Rattle.std.proofs.Common.{◌≡◌, Bool, true, false, List, [], ◌∷◌, refl, ap, ◌∙◌, inl, inr, ◌++◌}
use Rattle.kt_tree.specs.declared.tokens.Token.{Token}
use Rattle.kt_tree.specs.declared.tokens.TokenKind.{TokenKind}
use Rattle.kt_tree.specs.declared.tokens.TokenKind.TheVariants as kind
use Rattle.kt_tree.specs.declared.tokens.Sign.{Sign}
use Rattle.kt_tree.specs.declared.tokens.Sign.TheVariants as sign
use Rattle.kt_tree.specs.Tokens.{kind_is_sign, is_sign, is_new_line}
use Rattle.kt_tree.specs.Types.{TypeTree}
use Rattle.kt_grammar_parsers.specs.Parsers.{Parser, first, some_levels}
use Rattle.kt_grammar_parsers.specs.Phrases.{IsToken}
use Rattle.kt_grammar.specs.Types.{IsType}
use Rattle.kt_grammar.specs.Declarations.{most_levels}
use Rattle.kt_grammar.specs.Readers.{type_parser}
use Rattle.kt_grammar_parsers.proofs.Correct.{below, correct, same_language}
use Rattle.kt_grammar_parsers.proofs.Steps.{Any, truth}
use Rattle.kt_grammar.proofs.types.TypesRead.{TypeEnds, types_correct, type_phrase}
use Rattle.kt_grammar.proofs.tokens.Closing.{kind_sign, closed_no}
use Rattle.kt_grammar.proofs.parts.Sequences.{Part, Anything, Closes}
use Rattle.kt_grammar.proofs.tokens.Begins.{of_kind}
use Rattle.kt_grammar.proofs.tokens.Distinct.{no_new_line, token_no}

-- ---- what holds of the next token

-- a token of a kind that the test passes comes next
abbrev pub Next : (TokenKind → Bool) → List Token → Type 0
Next test tail = first (of_kind test) tail ≡ true

-- none comes next
abbrev pub NoNext : (TokenKind → Bool) → List Token → Type 0
NoNext test tail = first (of_kind test) tail ≡ false

-- where only one kind passes, another test says of it what it says of that kind
pub next_is : (one test : TokenKind → Bool) (only : TokenKind) (b : Bool) → ((k : TokenKind) → one k ≡ true → k ≡ only) → test only ≡ b → (tail : List Token) → Next one tail → first (of_kind test) tail ≡ b
next_is one test only b is e [] h = absurd cc
next_is one test only b is e (t ∷ tail) h = ap test (is t.kind h) ∙ e

pub at_sign_no : (s : Sign) (test : TokenKind → Bool) → test (kind.Sign s) ≡ false → (tail : List Token) → Next (kind_is_sign s) tail → NoNext test tail
at_sign_no s test = next_is (kind_is_sign s) test (kind.Sign s) false (kind_sign s)

-- a test doesn't give both
pub both_ways : (b : Bool) → b ≡ true → b ≡ false → ⊥
both_ways true h i = absurd cc
both_ways false h i = absurd cc

-- a sign that the test passes doesn't come next
pub no_such_sign : (s : Sign) (test : TokenKind → Bool) → test (kind.Sign s) ≡ true → (tail : List Token) → NoNext test tail → first (is_sign s) tail ≡ false
no_such_sign s test e [] h = refl
no_such_sign s test e (t ∷ tail) h = elim (truth (is_sign s t)) [ inl y ↦ absurd (both_ways (test t.kind) (ap test (kind_sign s t.kind y) ∙ e) h) | inr n ↦ n ]

-- a sign is no line's end
pub sign_no_line : (s : Sign) (t : Token) (u rest : List Token) → IsToken (is_sign s) t u rest → first is_new_line (u ++ rest) ≡ false
sign_no_line s = token_no (is_sign s) is_new_line (no_new_line (kind_is_sign s) refl)

-- ---- types

-- what would go on with a type, or stands behind a name
abbrev pub goes_on_type : TokenKind → Bool
goes_on_type (kind.Sign sign.Question) = true
goes_on_type (kind.Sign sign.Less) = true
goes_on_type (kind.Sign sign.Arrow) = true
goes_on_type (kind.Sign sign.Colon) = true
goes_on_type _ = false

abbrev pub EndsType : List Token → Type 0
EndsType = NoNext goes_on_type

pub closes_type : (tail : List Token) → Closes tail → EndsType tail
closes_type = closed_no goes_on_type refl refl refl refl refl refl

pub ends_type : (t : TypeTree) (tail : List Token) → EndsType tail → TypeEnds t tail
ends_type t tail h = record { no_question = no_such_sign sign.Question goes_on_type refl tail h; no_less = no_such_sign sign.Less goes_on_type refl tail h; no_arrow = no_such_sign sign.Arrow goes_on_type refl tail h }

pub no_colon : (tail : List Token) → EndsType tail → first (is_sign sign.Colon) tail ≡ false
no_colon = no_such_sign sign.Colon goes_on_type refl

-- ends where something weaker is asked
pub stops_part : {A : Type 0} {p : Parser Token A} {L : A → List Token → List Token → Type 0} {F : List Token → Type 0} {N N' : A → List Token → Type 0} → ((a : A) (tail : List Token) → N' a tail → N a tail) → Part p L F N → Part p L F N'
stops_part {p = p} {L = L} {N = N} {N' = N'} stops P = record {
  correct = correct p L Any N' (λ n. same_language n p L L Any Any N N' (λ a u rest l. l) (λ a u rest l g. l) (λ a rest g. g) stops (below n p L Any N P.correct));
  whole = P.whole;
  tokens = P.tokens;
  phrase = λ tail h. P.phrase tail (stops P.whole tail h);
}

pub most_type_part : Part (type_parser most_levels) (IsType most_levels) Anything (λ _. EndsType)
unfolding most_levels type_parser IsType
most_type_part =
    let s = type_phrase (IsType 199) (some_levels 199) in
    stops_part ends_type (record { correct = types_correct 199; whole = s.whole; tokens = s.tokens; phrase = λ tail h. (s.phrase tail h, tt) })
