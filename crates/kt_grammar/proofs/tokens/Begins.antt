-- With which tokens phrases begin.
use Rattle.std.proofs.Common.{
  ◌≡◌,
  ◌<◌,
  Bool,
  true,
  false,
  List,
  [],
  ◌∷◌,
  ◌++◌,
  length,
  refl,
  sym,
  ap,
  ◌∙◌,
  arith,
  inl,
  inr,
}
use Rattle.kt_tree.specs.declared.tokens.Token.{Token}
use Rattle.kt_tree.specs.declared.tokens.TokenKind.{TokenKind}
use Rattle.kt_tree.specs.declared.tokens.TokenKind.TheVariants as kind
use Rattle.kt_tree.specs.declared.tokens.Keyword.{Keyword}
use Rattle.kt_tree.specs.declared.tokens.Keyword.TheVariants as word
use Rattle.kt_tree.specs.declared.tokens.Sign.{Sign}
use Rattle.kt_tree.specs.declared.tokens.Sign.TheVariants as sign
use Rattle.kt_grammar_parsers.specs.Parsers.{first}
use Rattle.kt_grammar_parsers.specs.Phrases.{IsToken, Seq, Either, NotReads}
pub use Rattle.kt_grammar.specs.Terminals.{kind_begins_expression, keyword_begins_expression}

-- ---- tests

abbrev pub keyword_begins_statement : Keyword → Bool
keyword_begins_statement word.Val = true
keyword_begins_statement word.Var = true
keyword_begins_statement word.While = true
keyword_begins_statement word.Do = true
keyword_begins_statement word.For = true
keyword_begins_statement k = keyword_begins_expression k

-- also a body
abbrev pub kind_begins_statement : TokenKind → Bool
kind_begins_statement (kind.Keyword k) = keyword_begins_statement k
kind_begins_statement k = kind_begins_expression k

abbrev pub kind_begins_condition : TokenKind → Bool
kind_begins_condition (kind.Keyword word.Is) = true
kind_begins_condition (kind.Sign sign.NotIs) = true
kind_begins_condition k = kind_begins_expression k

abbrev pub kind_begins_entry : TokenKind → Bool
kind_begins_entry (kind.Keyword word.Else) = true
kind_begins_entry k = kind_begins_condition k

abbrev pub kind_begins_part : TokenKind → Bool
kind_begins_part (kind.Run units) = true
kind_begins_part (kind.Escape unit) = true
kind_begins_part kind.Dollar = true
kind_begins_part (kind.NamePart name) = true
kind_begins_part kind.ThisPart = true
kind_begins_part kind.OpenTemplate = true
kind_begins_part _ = false

-- a token whose kind passes
abbrev pub of_kind : (TokenKind → Bool) → Token → Bool
of_kind test token = test token.kind

-- each phrase has a first token, and it passes the test
abbrev pub Begins : {A : Type 0} → (TokenKind → Bool) → (A → List Token → List Token → Type 0) → Type 0
Begins {A} test L = (a : A) (u rest : List Token) → L a u rest → first (of_kind test) u ≡ true

-- ---- from the parts to the whole

pub first_of_front : (test : Token → Bool) (u rest : List Token) → first test u ≡ true → first test (u ++ rest) ≡ true
first_of_front test [] rest h = absurd cc
first_of_front test (t ∷ u) rest h = h

pub begins_not_empty : (test : Token → Bool) (u : List Token) → first test u ≡ true → 0 < length u
begins_not_empty test [] h = absurd cc
begins_not_empty test (t ∷ u) h = omega arith

pub first_no : (test other : Token → Bool) (ts : List Token) → ((t : Token) → test t ≡ true → other t ≡ false) → first test ts ≡ true → first other ts ≡ false
first_no test other [] apart h = refl
first_no test other (t ∷ ts) apart h = apart t h

pub first_yes : (test other : Token → Bool) (ts : List Token) → ((t : Token) → test t ≡ true → other t ≡ true) → first test ts ≡ true → first other ts ≡ true
first_yes test other [] more h = absurd cc
first_yes test other (t ∷ ts) more h = more t h

pub token_begins_with : (test : Token → Bool) (wide : TokenKind → Bool) → ((t : Token) → test t ≡ true → wide t.kind ≡ true) → (t : Token) (u rest : List Token) → IsToken test t u rest → first (of_kind wide) u ≡ true
token_begins_with test wide more t u rest l = ap (first (of_kind wide)) l.one ∙ more t l.passes

pub seq_begins_with : {A B : Type 0} {L : A → List Token → List Token → Type 0} {M : A → B → List Token → List Token → Type 0} (test : TokenKind → Bool) → Begins test L → Begins test (Seq L M)
seq_begins_with test begins b u rest s = ap (first (of_kind test)) s.is ∙ first_of_front (of_kind test) s.front s.back (begins s.value s.front (s.back ++ rest) s.phrase)

pub either_begins_with : {B : Type 0} {L M : B → List Token → List Token → Type 0} (test : TokenKind → Bool) → Begins test L → Begins test M → Begins test (Either L M)
either_begins_with test l m b u rest (inl x) = l b u rest x
either_begins_with test l m b u rest (inr x) = m b u rest x

-- no phrase stands where its first token doesn't
pub begins_not_read : {A : Type 0} (test : TokenKind → Bool) {L : A → List Token → List Token → Type 0} → Begins test L → (ts : List Token) → first (of_kind test) ts ≡ false → NotReads L ts
begins_not_read test begins ts h a u rest is l = let e : true ≡ false = sym (first_of_front (of_kind test) u rest (begins a u rest l)) ∙ ap (first (of_kind test)) (sym is) ∙ h in absurd cc

-- a phrase begins with no token that the test tells apart
pub begins_no : {A : Type 0} (test : TokenKind → Bool) (other : Token → Bool) {L : A → List Token → List Token → Type 0} → ((t : Token) → test t.kind ≡ true → other t ≡ false) → Begins test L → (a : A) (u rest : List Token) → L a u rest → first other (u ++ rest) ≡ false
begins_no test other apart begins a u rest l = first_no (of_kind test) other (u ++ rest) apart (first_of_front (of_kind test) u rest (begins a u rest l))

pub begins_eats : {A : Type 0} (test : TokenKind → Bool) {L : A → List Token → List Token → Type 0} → Begins test L → (a : A) (u rest : List Token) → L a u rest → 0 < length u
begins_eats test begins a u rest l = begins_not_empty (of_kind test) u (begins a u rest l)
