-- A token that passes a test of its kind fails another.
use Rattle.std.proofs.Common.{
  ◌≡◌,
  inl,
  inr,
  ◌⊎◌,
  Bool,
  true,
  false,
  List,
  [],
  ◌∷◌,
  ◌++◌,
  Option,
  None,
  Some,
  refl,
  sym,
  ap,
  ◌∙◌,
}
use Rattle.std.specs.Prelude.{if◌then◌else◌}
use Rattle.kt_tree.specs.declared.tokens.Token.{Token}
use Rattle.kt_tree.specs.declared.tokens.TokenKind.{TokenKind}
use Rattle.kt_tree.specs.declared.tokens.TokenKind.TheVariants as kind
use Rattle.kt_tree.specs.declared.tokens.Keyword.{Keyword}
use Rattle.kt_tree.specs.declared.tokens.Sign.{Sign}
use Rattle.kt_tree.specs.Tokens.{kind_is_sign, kind_is_keyword, kind_is_new_line, is_sign, is_keyword, is_new_line}
use Rattle.kt_grammar_parsers.specs.Parsers.{first}
use Rattle.kt_grammar_parsers.specs.Phrases.{IsToken, NotReads}
use Rattle.kt_grammar.specs.Terminals.{Meaning, means}
use Rattle.kt_grammar.specs.Words.{IsMeant}
use Rattle.kt_grammar_parsers.proofs.Steps.{truth}
use Rattle.kt_grammar.proofs.tokens.Apart.{same_keyword_is}
use Rattle.kt_grammar.proofs.tokens.Closing.{kind_sign}
use Rattle.kt_grammar.proofs.tokens.Begins.{of_kind}

pub kind_keyword : (w : Keyword) (k : TokenKind) → kind_is_keyword w k ≡ true → k ≡ kind.Keyword w
kind_keyword w (kind.Keyword found) h = ap kind.Keyword (same_keyword_is found w h)
kind_keyword w _ h = absurd cc

pub kind_new_line : (k : TokenKind) → kind_is_new_line k ≡ true → k ≡ kind.NewLine
kind_new_line kind.NewLine h = refl
kind_new_line _ h = absurd cc

pub not_true : (b : Bool) → (b ≡ true → ⊥) → b ≡ false
not_true true h = absurd (h refl)
not_true false h = refl

pub both_ways : (b : Bool) → b ≡ true → b ≡ false → ⊥
both_ways true h i = absurd cc
both_ways false h i = absurd cc

-- a test that one kind alone passes, which another doesn't
pub apart : (test one : TokenKind → Bool) (only : TokenKind) → ((k : TokenKind) → one k ≡ true → k ≡ only) → test only ≡ false → (k : TokenKind) → test k ≡ true → one k ≡ false
apart test one only is e k h = not_true (one k) (λ y. both_ways (test k) h (ap test (is k y) ∙ e))

pub no_sign : (test : TokenKind → Bool) (s : Sign) → test (kind.Sign s) ≡ false → (t : Token) → of_kind test t ≡ true → is_sign s t ≡ false
no_sign test s e t h = apart test (kind_is_sign s) (kind.Sign s) (kind_sign s) e t.kind h

pub no_keyword : (test : TokenKind → Bool) (w : Keyword) → test (kind.Keyword w) ≡ false → (t : Token) → of_kind test t ≡ true → is_keyword w t ≡ false
no_keyword test w e t h = apart test (kind_is_keyword w) (kind.Keyword w) (kind_keyword w) e t.kind h

pub no_new_line : (test : TokenKind → Bool) → test kind.NewLine ≡ false → (t : Token) → of_kind test t ≡ true → is_new_line t ≡ false
no_new_line test e t h = apart test kind_is_new_line kind.NewLine kind_new_line e t.kind h

-- ---- tokens that stand for nothing

pub means_none : {A : Type 0} (test : Token → Bool) (a : A) (other : Meaning A) (t : Token) → test t ≡ false → other t ≡ None → means test a other t ≡ None
means_none test a other t e f = rw e f

pub none_is_some : {A : Type 0} (o : Option A) (a : A) → o ≡ None → o ≡ Some a → ⊥
none_is_some o a e f = absurd cc

-- what begins with tokens that stand for nothing is no token that stands for something
pub no_meaning : {A : Type 0} (of : Meaning A) (test : TokenKind → Bool) → ((t : Token) → of_kind test t ≡ true → of t ≡ None) → (ts : List Token) → first (of_kind test) ts ≡ true → NotReads (IsMeant of) ts
no_meaning of test none ts h found u rest is l =
    let e : ts ≡ found.0 ∷ rest = is ∙ ap (λ (z : List Token). z ++ rest) l.one in
    none_is_some (of found.0) found.1 (none found.0 (sym (ap (first (of_kind test)) e) ∙ h)) l.means

pub means_some : {A : Type 0} (test : Token → Bool) (a : A) (other : Meaning A) (t : Token) (b : A) → means test a other t ≡ Some b → (test t ≡ true) ⊎ (other t ≡ Some b)
means_some test a other t b h = elim (truth (test t)) [ inl y ↦ inl y | inr n ↦ inr (sym (by_test (test t) n) ∙ h) ]
  where
    by_test : (found : Bool) → found ≡ false → (if found then Some a else other t) ≡ other t
    by_test true n = absurd cc
    by_test false n = refl

-- a token of one kind, where none of another kind stands
pub token_no : (test other : Token → Bool) → ((t : Token) → test t ≡ true → other t ≡ false) → (t : Token) (u rest : List Token) → IsToken test t u rest → first other (u ++ rest) ≡ false
token_no test other distinct t u rest l = ap (λ (z : List Token). first other (z ++ rest)) l.one ∙ distinct t l.passes
