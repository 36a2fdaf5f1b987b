-- A token passes no two tests that tell kinds of tokens apart.
use Rattle.std.proofs.Common.{◌≡◌, true, false, refl, ap, ◌∙◌, rules}
use denote.Enum.Bare.{same_true}
use Rattle.kt_tree.specs.contracts.tokens.Keyword as keyword_kind
use Rattle.kt_tree.specs.contracts.tokens.Sign as sign_kind
use Rattle.kt_tree.specs.declared.tokens.Token.{Token}
use Rattle.kt_tree.specs.declared.tokens.TokenKind.{TokenKind}
use Rattle.kt_tree.specs.declared.tokens.TokenKind.TheVariants as kind
use Rattle.kt_tree.specs.declared.tokens.Keyword.{Keyword}
use Rattle.kt_tree.specs.declared.tokens.Sign.{Sign}
use Rattle.kt_tree.specs.declared.tokens.SoftKeyword.{SoftKeyword}
use Rattle.kt_tree.specs.Tokens.{
  kind_is_soft_keyword,
  is_soft_keyword,
  same_sign,
  same_keyword,
  kind_is_sign,
  kind_is_identifier,
  is_sign,
  is_identifier,
}

pub same_sign_is : (a b : Sign) → same_sign a b ≡ true → a ≡ b
unfolding same_sign
same_sign_is a b h = same_true sign_kind.the_type (search rules) a b h

found_apart : (s other found : Sign) → same_sign s other ≡ false → same_sign found s ≡ true → same_sign found other ≡ false
found_apart s other found e h = ap (λ (z : Sign). same_sign z other) (same_sign_is found s h) ∙ e

kind_apart : (s other : Sign) → same_sign s other ≡ false → (k : TokenKind) → kind_is_sign s k ≡ true → kind_is_sign other k ≡ false
kind_apart s other e (kind.Sign found) h = found_apart s other found e h
kind_apart s other e _ h = refl

-- two signs
pub signs_apart : (s other : Sign) → same_sign s other ≡ false → (t : Token) → is_sign s t ≡ true → is_sign other t ≡ false
signs_apart s other e t h = kind_apart s other e t.kind h

kind_no_sign : (s : Sign) (k : TokenKind) → kind_is_identifier k ≡ true → kind_is_sign s k ≡ false
kind_no_sign s (kind.Identifier x) h = refl
kind_no_sign s (kind.Sign found) h = absurd cc
kind_no_sign s _ h = refl

-- an identifier and a sign
pub identifier_no_sign : (s : Sign) (t : Token) → is_identifier t ≡ true → is_sign s t ≡ false
identifier_no_sign s t h = kind_no_sign s t.kind h

kind_soft_no_sign : (w : SoftKeyword) (s : Sign) (k : TokenKind) → kind_is_soft_keyword w k ≡ true → kind_is_sign s k ≡ false
kind_soft_no_sign w s (kind.Identifier x) h = refl
kind_soft_no_sign w s (kind.Sign found) h = absurd cc
kind_soft_no_sign w s _ h = refl

-- a soft keyword and a sign
pub soft_no_sign : (w : SoftKeyword) (s : Sign) (t : Token) → is_soft_keyword w t ≡ true → is_sign s t ≡ false
soft_no_sign w s t h = kind_soft_no_sign w s t.kind h

pub same_keyword_is : (a b : Keyword) → same_keyword a b ≡ true → a ≡ b
unfolding same_keyword
same_keyword_is a b h = same_true keyword_kind.the_type (search rules) a b h
