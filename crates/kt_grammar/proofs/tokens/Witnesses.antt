-- A token of each kind, and parts that are one sign or one word.
use Rattle.std.proofs.Common.{◌≡◌, ℕ, Bool, true, false, List, [], ◌∷◌, ◌++◌, refl, ap, ◌∙◌}
use denote.Enum.Bare.{true_same}
use Rattle.kt_tree.specs.contracts.tokens.Sign as sign_kind
use Rattle.kt_tree.specs.contracts.tokens.Keyword as keyword_kind
use Rattle.kt_tree.specs.declared.tokens.Token.{Token}
use Rattle.kt_tree.specs.declared.tokens.TokenKind.{TokenKind}
use Rattle.kt_tree.specs.declared.tokens.TokenKind.TheVariants as kind
use Rattle.kt_tree.specs.declared.tokens.Keyword.{Keyword}
use Rattle.kt_tree.specs.declared.tokens.Sign.{Sign}
use Rattle.kt_tree.specs.declared.tokens.Sign.TheVariants as sign
use Rattle.kt_tree.specs.declared.tokens.SoftKeyword.{SoftKeyword}
use Rattle.kt_tree.specs.Tokens.{
  same_sign,
  same_keyword,
  is_sign,
  is_keyword,
  is_identifier,
  is_new_line,
  kind_is_sign,
  kind_is_identifier,
  spelling,
}
use Rattle.kt_grammar_parsers.specs.Parsers.{Parser, first, ◌>>=◌, ◌>>◌, token, skip}
use Rattle.kt_grammar_parsers.specs.Phrases.{IsToken, IsSkipped, Seq}
use Rattle.kt_grammar.proofs.types.TypesRead.{a_sign, a_name}
use Rattle.kt_grammar.proofs.tokens.Closing.{goes_on, kind_sign}
use Rattle.kt_grammar.proofs.parts.Sequences.{Part, Anything, Closes, one, then}
use Rattle.kt_grammar.proofs.tokens.Distinct.{kind_keyword, no_sign, no_keyword, no_new_line}
use Rattle.kt_grammar.proofs.parts.Choices.{past_then}
use Rattle.kt_grammar.proofs.tokens.Begins.{Begins, token_begins_with, begins_no}

pub sign_is : (s : Sign) → is_sign s (a_sign s) ≡ true
unfolding same_sign
sign_is s = true_same sign_kind.the_type s s refl

abbrev pub a_keyword : Keyword → Token
a_keyword w = record { kind = kind.Keyword w; pos = record { line = 1; column = 1 } }

pub keyword_is : (w : Keyword) → is_keyword w (a_keyword w) ≡ true
unfolding same_keyword
keyword_is w = true_same keyword_kind.the_type w w refl

abbrev pub a_soft_keyword : SoftKeyword → Token
a_soft_keyword w = record { kind = kind.Identifier (spelling w); pos = record { line = 1; column = 1 } }

-- ---- parts

pub sign_part : {F : List Token → Type 0} (s : Sign) → ((tail : List Token) → F (a_sign s ∷ tail)) → Part (token (is_sign s)) (IsToken (is_sign s)) F (λ _. Anything)
sign_part s asked = one (is_sign s) (a_sign s) (sign_is s) (λ tail h. asked tail)

pub keyword_part : (w : Keyword) → Part (token (is_keyword w)) (IsToken (is_keyword w)) Anything (λ _. Anything)
keyword_part w = one (is_keyword w) (a_keyword w) (keyword_is w) (λ tail h. tt)

-- a sign, and what goes on with it
pub sign_then : {B : Type 0} {go : Token → Parser Token B} {M : Token → B → List Token → List Token → Type 0} {F : List Token → Type 0} {N : B → List Token → Type 0} (s : Sign) → ((tail : List Token) → F (a_sign s ∷ tail)) → ((t : Token) → Part (go t) (M t) Anything N) → Part (token (is_sign s) >>= go) (Seq (IsToken (is_sign s)) M) F N
sign_then s asked Q = then (sign_part s asked) Q

-- ---- what holds of a sign

-- what depends on a token's kind alone
pub at_sign : {X : Type 0} (s : Sign) (of : TokenKind → X) (x : X) → of (kind.Sign s) ≡ x → (t : Token) → is_sign s t ≡ true → of t.kind ≡ x
at_sign s of x e t h = ap of (kind_sign s t.kind h) ∙ e

-- a closing sign ends what stands before it
pub closes_at : (s : Sign) → goes_on (a_sign s) ≡ false → (tail : List Token) → first (is_sign s) tail ≡ true → Closes tail
closes_at s e [] h = refl
closes_at s e (t ∷ tail) h = at_sign s (λ (k : TokenKind). goes_on (record { kind = k; pos = t.pos })) false e t h

-- a part that ends where a closing sign does, that sign, and what goes on with them
pub close_then : {A B : Type 0} {p : Parser Token A} {L : A → List Token → List Token → Type 0} {go : A → Token → Parser Token B} {M : A → Token → B → List Token → List Token → Type 0} {F : List Token → Type 0} {N : B → List Token → Type 0}
    (s : Sign) → goes_on (a_sign s) ≡ false → Part p L F (λ _. Closes) → ((a : A) (t : Token) → Part (go a t) (M a t) Anything N) → Part (p >>= (λ a. token (is_sign s) >>= go a)) (Seq L (λ a. Seq (IsToken (is_sign s)) (M a))) F N
close_then s e P Q = then P (λ a. sign_then s (λ tail. e) (Q a))

-- ---- phrases that begin with a sign or a word, or with none

pub sign_begins : (test : TokenKind → Bool) (s : Sign) → test (kind.Sign s) ≡ true → Begins test (IsToken (is_sign s))
sign_begins test s e = token_begins_with (is_sign s) test (at_sign s test true e)

pub keyword_begins : (test : TokenKind → Bool) (w : Keyword) → test (kind.Keyword w) ≡ true → Begins test (IsToken (is_keyword w))
keyword_begins test w e = token_begins_with (is_keyword w) test (λ t h. ap test (kind_keyword w t.kind h) ∙ e)

pub begins_no_sign : {A : Type 0} {L : A → List Token → List Token → Type 0} (test : TokenKind → Bool) (s : Sign) → test (kind.Sign s) ≡ false → Begins test L → (a : A) (u rest : List Token) → L a u rest → first (is_sign s) (u ++ rest) ≡ false
begins_no_sign test s e begins = begins_no test (is_sign s) (no_sign test s e) begins

pub begins_no_keyword : {A : Type 0} {L : A → List Token → List Token → Type 0} (test : TokenKind → Bool) (w : Keyword) → test (kind.Keyword w) ≡ false → Begins test L → (a : A) (u rest : List Token) → L a u rest → first (is_keyword w) (u ++ rest) ≡ false
begins_no_keyword test w e begins = begins_no test (is_keyword w) (no_keyword test w e) begins

pub begins_no_line : {A : Type 0} {L : A → List Token → List Token → Type 0} (test : TokenKind → Bool) → test kind.NewLine ≡ false → Begins test L → (a : A) (u rest : List Token) → L a u rest → first is_new_line (u ++ rest) ≡ false
begins_no_line test e begins = begins_no test is_new_line (no_new_line test e) begins

-- behind line ends: a part that begins with none, and what goes on with it
pub sign_past_then : {B : Type 0} {go : Token → Parser Token B} {M : Token → B → List Token → List Token → Type 0} {F : List Token → Type 0} {N : B → List Token → Type 0} (s : Sign) → ((tail : List Token) → F (a_sign s ∷ tail)) → ((t : Token) → Part (go t) (M t) Anything N) → Part (skip is_new_line >> (token (is_sign s) >>= go)) (Seq (Seq (IsSkipped is_new_line) (λ _. IsToken (is_sign s))) M) F N
sign_past_then s asked Q = past_then (begins_no_line (kind_is_sign s) refl (sign_begins (kind_is_sign s) s (sign_is s))) (sign_part s asked) Q

pub name_begins : (test : TokenKind → Bool) → ((name : List ℕ) → test (kind.Identifier name) ≡ true) → Begins test (IsToken is_identifier)
name_begins test e = token_begins_with is_identifier test (λ t h. at_name test e t.kind h)
  where
    at_name : (test : TokenKind → Bool) → ((name : List ℕ) → test (kind.Identifier name) ≡ true) → (k : TokenKind) → kind_is_identifier k ≡ true → test k ≡ true
    at_name test e (kind.Identifier name) h = e name
    at_name test e _ h = absurd cc

pub name_part : {F : List Token → Type 0} → ((tail : List Token) → F (a_name ∷ tail)) → Part (token is_identifier) (IsToken is_identifier) F (λ _. Anything)
name_part asked = one is_identifier a_name refl (λ tail h. asked tail)

pub name_no_line : (t : Token) (u rest : List Token) → IsToken is_identifier t u rest → first is_new_line (u ++ rest) ≡ false
name_no_line = begins_no_line kind_is_identifier refl (name_begins kind_is_identifier (λ name. refl))

-- ---- the closing signs

pub parenthesis_ends : goes_on (a_sign sign.CloseParenthesis) ≡ false
unfolding same_sign
parenthesis_ends = refl

pub bracket_ends : goes_on (a_sign sign.CloseBracket) ≡ false
unfolding same_sign
bracket_ends = refl

pub brace_ends : goes_on (a_sign sign.CloseBrace) ≡ false
unfolding same_sign
brace_ends = refl
