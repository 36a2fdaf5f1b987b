-- The words that productions are written in, beside those that serve tokens of any type.
use Rattle.std.specs.Prelude.{◌≡◌, Bool, List, [], ◌∷◌, Option, None, Some}
use Rattle.kt_tree.specs.declared.tokens.Token.{Token}
use Rattle.kt_tree.specs.declared.tokens.Sign.{Sign}
use Rattle.kt_tree.specs.declared.tokens.Sign.TheVariants as sign
use Rattle.kt_tree.specs.declared.tokens.Keyword.{Keyword}
use Rattle.kt_tree.specs.declared.tokens.SoftKeyword.{SoftKeyword}
use Rattle.kt_tree.specs.Tokens.{is_keyword, is_sign, is_soft_keyword, is_new_line, is_identifier}
use Rattle.kt_grammar_parsers.specs.Phrases as p
use Rattle.kt_grammar_parsers.specs.Phrases.{IsNothing, IsToken, IsSkipped, Seq, FirstOf}
use Rattle.kt_grammar.specs.Terminals.{Meaning, is_separator}

-- which tokens spell which value, where certain tokens follow
abbrev pub Spells : Type 0 → Type 1
Spells A = A → List Token → List Token → Type 0

-- no phrase at all
abbrev pub Empty : {A : Type 0} → A → List Token → List Token → Type 0
Empty a u rest = ⊥

-- no token; the value is built from those before
abbrev pub Gives : {A : Type 0} → A → A → List Token → List Token → Type 0
Gives = IsNothing

abbrev pub IsSign : Sign → Token → List Token → List Token → Type 0
IsSign s = IsToken (is_sign s)

abbrev pub IsKeyword : Keyword → Token → List Token → List Token → Type 0
IsKeyword k = IsToken (is_keyword k)

abbrev pub IsSoftKeyword : SoftKeyword → Token → List Token → List Token → Type 0
IsSoftKeyword w = IsToken (is_soft_keyword w)

abbrev pub IsIdentifier : Token → List Token → List Token → Type 0
IsIdentifier = IsToken is_identifier

-- one token, and what it stands for
pub record IsMeant {A : Type 0} (of : Meaning A) (found : Token × A) (u rest : List Token) : Type 0 where
  pub means : of found.0 ≡ Some found.1
  pub one : u ≡ found.0 ∷ []

-- n: the line ends that stand there
abbrev pub IsLines : Unit {0} → List Token → List Token → Type 0
IsLines = IsSkipped is_new_line

-- sep?: the separators that stand there
abbrev pub IsSeparators : Unit {0} → List Token → List Token → Type 0
IsSeparators = IsSkipped is_separator

-- a phrase behind line ends
abbrev pub IsPast : {A : Type 0} → (A → List Token → List Token → Type 0) → A → List Token → List Token → Type 0
IsPast L = Seq IsLines (λ _. L)

-- what L gives, or nothing
abbrev pub Maybe : {A : Type 0} → (Token → Bool) → (A → List Token → List Token → Type 0) → Option A → List Token
    → List Token → Type 0
Maybe test L = FirstOf (IsToken test) (λ _. Seq L (λ a. Gives (Some a))) (Gives None)

-- item (',' item)* close
abbrev pub CommaList : {A : Type 0} → (Token → Bool) → (A → List Token → List Token → Type 0) → List A → List Token
    → List Token → Type 0
CommaList = p.CommaList (is_sign sign.Comma)

-- (item (',' item)*)? close
abbrev pub MaybeCommaList : {A : Type 0} → (Token → Bool) → (A → List Token → List Token → Type 0) → List A
    → List Token → List Token → Type 0
MaybeCommaList = p.MaybeCommaList (is_sign sign.Comma)

-- item (lead ',' n item)*
abbrev pub Several : {A : Type 0} → (Unit {0} → List Token → List Token → Type 0)
    → (A → List Token → List Token → Type 0) → List A → List Token → List Token → Type 0
Several Lead = p.Several Lead (is_sign sign.Comma) is_new_line

-- sep? (item (sep item)*)? sep? close, with the closing token
abbrev pub Items : {A : Type 0} → (Token → Bool) → (A → List Token → List Token → Type 0) → List A × Token → List Token
    → List Token → Type 0
Items = p.Items is_separator

-- no line ends
abbrev pub Directly : Unit {0} → List Token → List Token → Type 0
Directly = IsNothing tt
