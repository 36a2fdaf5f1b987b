-- Parts that a token ends: turns, lists in parentheses and in braces; and lists with commas that something else ends.
use Rattle.std.proofs.Common.{
  ◌≡◌,
  ◌<◌,
  Bool,
  true,
  false,
  List,
  [],
  ◌∷◌,
  ◌++◌,
  length,
  refl,
  sym,
  ap,
  ◌∙◌,
  inl,
  inr,
  ◌⊎◌,
}
use Rattle.std.proofs.lemmas.List.{append-nil}
use Rattle.kt_base.specs.declared.refusals.Pos.{Pos}
use Rattle.kt_tree.specs.declared.tokens.Token.{Token}
use Rattle.kt_tree.specs.declared.tokens.TokenKind.{TokenKind}
use Rattle.kt_tree.specs.declared.tokens.TokenKind.TheVariants as kind
use Rattle.kt_tree.specs.declared.tokens.Sign.TheVariants as sign
use Rattle.kt_tree.specs.Tokens.{same_sign, kind_is_sign, is_sign}
use Rattle.kt_grammar_parsers.specs.Parsers.{Parser, first, repeat, several, token, ◌>>◌}
use Rattle.kt_grammar_parsers.specs.Phrases.{
  IsToken,
  IsSkipped,
  AllPass,
  Seq,
  Either,
  If,
  Loop,
  ends,
  NotReads,
  Several,
}
use Rattle.kt_grammar.specs.Terminals.{is_separator}
use Rattle.kt_grammar.specs.Words.{MaybeCommaList, Items}
use Rattle.kt_grammar.specs.Readers.{maybe_commas, separated}
use Rattle.kt_grammar_parsers.proofs.Correct.{Correct}
use Rattle.kt_grammar_parsers.proofs.Steps.{Any}
use Rattle.kt_grammar.proofs.tokens.Apart.{signs_apart}
use Rattle.kt_grammar_parsers.proofs.Repeat.{repeat_correct}
use Rattle.kt_grammar_parsers.proofs.Forms.{several_correct}
use Rattle.kt_grammar.proofs.types.TypesRead.{a_sign}
use Rattle.kt_grammar.proofs.parts.Sequences.{Part, Anything, phrase_of}
use Rattle.kt_grammar.proofs.parts.Choices.{same_part}
use Rattle.kt_grammar.proofs.tokens.Begins.{of_kind, Begins}
use Rattle.kt_grammar.proofs.parts.Below.{IsRead}
use Rattle.kt_grammar.proofs.tokens.Distinct.{apart, no_sign}
use Rattle.kt_grammar.proofs.parts.Left.{items_part, commas_part}
use Rattle.kt_grammar.proofs.tokens.Witnesses.{sign_is}
use Rattle.kt_grammar.proofs.expressions.BlocksRead.{semicolon_separates}
use Rattle.kt_grammar.proofs.tokens.Following.{Next}

-- ---- turns

-- turns that certain tokens end
pub ended_part : {T S B : Type 0} {turn : S → Parser T (S ⊎ B)} {Turn : S → S ⊎ B → List T → List T → Type 0} {F : List T → Type 0} → ((x : S) → Correct (turn x) (Turn x) Any Any) → ((x y : S) (u rest : List T) → Turn x (inl y) u rest → 0 < length u)
    → (result : S → B) (last : List T) → ((x : S) (tail : List T) → Turn x (inr (result x)) last tail) → ((tail : List T) → F (last ++ tail)) → (x : S) → Part (repeat turn x) (Loop Turn x) F (λ _. Anything)
ended_part {turn = turn} {Turn = Turn} C eats result last stop asked x = record {
  correct = repeat_correct turn Turn Any Any Any (λ _. Anything) C eats (λ y b u rest l g. tt) (λ b rest g. tt) (λ b rest h. tt) (λ z y u l. record { whole = result y; tokens = last; phrase = λ tail h. (ends (stop y tail), tt) }) x;
  whole = result x;
  tokens = last;
  phrase = λ tail h. (ends (stop x tail), asked tail);
}

-- ---- lists with commas, as long as one follows

pub several_part : {T A : Type 0} (lead : Parser T (Unit {0})) {Lead : Unit {0} → List T → List T → Type 0} {comma line : T → Bool} {item : Parser T A} {Item : A → List T → List T → Type 0} {F Stop : List T → Type 0} → Part (lead >> token comma) (Seq Lead (λ _. IsToken comma)) Anything (λ _. Anything) → Part item Item F (λ _. Stop)
    → ((a : A) (u rest : List T) → Item a u rest → first line (u ++ rest) ≡ false) → ((tail : List T) → Stop tail → NotReads (Seq Lead (λ _. IsToken comma)) tail) → Part (several lead comma line item) (Several Lead comma line Item) F (λ _. Stop)
several_part lead {Lead = Lead} {comma = comma} {line = line} {item = item} {Item = Item} {Stop = Stop} K P no_line absent = record {
  correct = several_correct lead Lead comma line K.correct item Item (λ _. Stop) P.correct (phrase_of P) no_line Stop (λ a tail h. h) absent;
  whole = P.whole ∷ [];
  tokens = P.tokens;
  phrase = λ tail h. let q = P.phrase tail h in (record { value = P.whole; front = P.tokens; back = []; is = sym (append-nil P.tokens); phrase = q.0; phrase' = ends (inr (record { value = refl; none = refl }, absent tail h)) }, q.1);
}

-- ---- what a condition chooses, and a choice the other way round

pub if_true_part : {T A : Type 0} {p : Parser T A} {L M : A → List T → List T → Type 0} {F : List T → Type 0} {N : A → List T → Type 0} → Part p L F N → Part p (If true L M) F N
if_true_part = same_part (λ a u rest l. inl (refl, l)) (λ a u rest l. elim l [ inl y ↦ y.1 | inr n ↦ absurd (let e : true ≡ false = n.0 in cc) ])

pub if_false_part : {T A : Type 0} {p : Parser T A} {L M : A → List T → List T → Type 0} {F : List T → Type 0} {N : A → List T → Type 0} → Part p M F N → Part p (If false L M) F N
if_false_part = same_part (λ a u rest l. inr (refl, l)) (λ a u rest l. elim l [ inl y ↦ absurd (let e : false ≡ true = y.0 in cc) | inr n ↦ n.1 ])

pub swap_part : {T A : Type 0} {p : Parser T A} {L M : A → List T → List T → Type 0} {F : List T → Type 0} {N : A → List T → Type 0} → Part p (Either L M) F N → Part p (Either M L) F N
swap_part = same_part (λ a u rest l. elim l [ inl x ↦ inr x | inr x ↦ inl x ]) (λ a u rest l. elim l [ inl x ↦ inr x | inr x ↦ inl x ])

-- ---- behind line ends

-- a phrase behind lines begins with no token that is neither a line's end nor begins a phrase
pub past_no : {T A : Type 0} {line : T → Bool} {K : A → List T → List T → Type 0} (other : T → Bool) → ((t : T) → line t ≡ true → other t ≡ false) → ((a : A) (u rest : List T) → K a u rest → first other (u ++ rest) ≡ false) → (a : A) (u rest : List T) → Seq (IsSkipped line) (λ _. K) a u rest → first other (u ++ rest) ≡ false
past_no {T} {line = line} other none starts a u rest s = ap (λ (z : List T). first other (z ++ rest)) s.is ∙ by_front s.front s.phrase.pass
  where
    by_front : (front : List T) → AllPass line front → first other ((front ++ s.back) ++ rest) ≡ false
    by_front [] h = starts a s.back rest s.phrase'
    by_front (t ∷ front) h = none t h.0

-- ---- lists that a token ends

pub as_read : {A : Type 0} {p : Parser Token A} {L : A → List Token → List Token → Type 0} {F Stop : List Token → Type 0} {test : TokenKind → Bool} → Part p L F (λ _. Stop) → Begins test L → IsRead true p L Stop Stop test
as_read P begins = record { correct = λ h. P.correct; phrase = λ h. phrase_of P; begins = begins; refuses = λ h. absurd (let e : true ≡ false = h in cc); none = λ h. absurd (let e : true ≡ false = h in cc) }

no_comma : (t : Token) → is_sign sign.CloseParenthesis t ≡ true → is_sign sign.Comma t ≡ false
unfolding same_sign
no_comma = signs_apart sign.CloseParenthesis sign.Comma refl

-- (item (',' item)*)? ')'
pub in_parentheses_part : {A : Type 0} {item : Parser Token A} {Item : A → List Token → List Token → Type 0} {Stop Halt F : List Token → Type 0} {test : TokenKind → Bool} → IsRead true item Item Stop Halt test → test (kind.Sign sign.CloseParenthesis) ≡ false
    → ((tail : List Token) → Next (kind_is_sign sign.CloseParenthesis) tail → Stop tail) → ((tail : List Token) → Stop tail → Halt tail) → ((tail : List Token) → F (a_sign sign.CloseParenthesis ∷ tail)) → Part (maybe_commas (is_sign sign.CloseParenthesis) item) (MaybeCommaList (is_sign sign.CloseParenthesis) Item) F (λ _. Anything)
in_parentheses_part {test = test} R no_close closes halts asked = commas_part (is_sign sign.Comma) (is_sign sign.CloseParenthesis) (a_sign sign.Comma) (a_sign sign.CloseParenthesis) (sign_is sign.Comma) (sign_is sign.CloseParenthesis) no_comma (no_sign test sign.CloseParenthesis no_close) closes halts true R asked

-- items between separators, up to the one token that passes the test
pub items_until_part : {A : Type 0} {item : Parser Token A} {Item : A → List Token → List Token → Type 0} {Stop : List Token → Type 0} {test : TokenKind → Bool} (one : TokenKind → Bool) (only : TokenKind) → ((k : TokenKind) → one k ≡ true → k ≡ only) → one only ≡ true → ((at : Pos) → is_separator (record { kind = only; pos = at }) ≡ false)
    → test only ≡ false → ((tail : List Token) → Next one tail → Stop tail) → IsRead true item Item Stop Stop test → Part (separated (of_kind one) item) (Items (of_kind one) Item) Anything (λ _. Anything)
items_until_part {test = test} one only is stands no_separator starts closes R = items_part is_separator (of_kind one) (a_sign sign.Semicolon) (record { kind = only; pos = record { line = 1; column = 1 } }) semicolon_separates stands
    (λ t h. ap (λ (k : TokenKind). is_separator (record { kind = k; pos = t.pos })) (is t.kind h) ∙ no_separator t.pos) (λ t. apart test one only is starts t.kind) closes (λ tail h. h) true R (λ tail. tt)
