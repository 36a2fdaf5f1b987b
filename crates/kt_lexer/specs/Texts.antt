-- The tokens of a text: each is the longest that is allowed at its place.
use Rattle.std.specs.Prelude.{
  ◌≡◌,
  ℕ,
  ◌+◌,
  ◌≤◌,
  ◌<◌,
  Bool,
  true,
  false,
  not,
  ◌&&◌,
  ◌==◌,
  if◌then◌else◌,
  List,
  [],
  ◌∷◌,
  ◌++◌,
  length,
  drop,
  ◌⊎◌,
}
use Rattle.kt_base.specs.declared.refusals.Pos.{Pos}
use Rattle.kt_tree.specs.declared.tokens.Token.{Token}
use Rattle.kt_tree.specs.declared.tokens.TokenKind.{TokenKind}
use Rattle.kt_tree.specs.declared.tokens.TokenKind.TheVariants as kind
use Rattle.kt_tree.specs.declared.tokens.Sign.{Sign}
use Rattle.kt_tree.specs.declared.tokens.Sign.TheVariants as sign
use denote.Enum.Bare.{sameb}
use Rattle.kt_lexer.specs.contracts.brackets.Open as open_kind
use Rattle.kt_lexer.specs.declared.brackets.Open.{Open}
use Rattle.kt_lexer.specs.declared.brackets.Open.TheVariants as opening
use Rattle.kt_lexer.specs.Lexemes.{IsOrdinary, IsInString, IsBlank}
use Rattle.kt_lexer.specs.Characters as char

-- the same bracket, or a string both
unfoldable pub same_open : Open → Open → Bool
same_open = sameb open_kind.the_type

-- the text is within a string, and not within brackets in it
abbrev pub in_string : List Open → Bool
in_string (opening.String ∷ opens) = true
in_string _ = false

-- the ends of lines count for nothing
abbrev pub drops_lines : List Open → Bool
drops_lines (opening.Parenthesis ∷ opens) = true
drops_lines (opening.Bracket ∷ opens) = true
drops_lines _ = false

-- the innermost open one is of this kind
abbrev pub closes : Open → List Open → Bool
closes o [] = false
closes o (innermost ∷ opens) = same_open innermost o

-- A closing bracket closes the innermost open one if it is of its kind, else it changes nothing.
abbrev pub closed : Open → List Open → List Open
closed o opens = if closes o opens then drop 1 opens else opens

-- what is open behind a sign
abbrev pub after_sign : Sign → List Open → List Open
after_sign sign.OpenParenthesis opens = opening.Parenthesis ∷ opens
after_sign sign.OpenBracket opens = opening.Bracket ∷ opens
after_sign sign.OpenBrace opens = opening.Brace ∷ opens
after_sign sign.CloseParenthesis opens = closed opening.Parenthesis opens
after_sign sign.CloseBracket opens = closed opening.Bracket opens
after_sign sign.CloseBrace opens = closed opening.Brace opens
after_sign _ opens = opens

-- what is open behind a token; `${` opens as `{` does
abbrev pub after_token : TokenKind → List Open → List Open
after_token (kind.Sign s) opens = after_sign s opens
after_token kind.OpenTemplate opens = opening.Brace ∷ opens
after_token kind.OpenQuote opens = opening.String ∷ opens
after_token kind.CloseQuote opens = closed opening.String opens
after_token _ opens = opens

-- the place behind a character
abbrev pub behind_character : Pos → ℕ → Pos
behind_character at c = if c == char.line_feed then record { line = at.line + 1; column = 1 }
    else record { line = at.line; column = at.column + 1 }

-- the place behind some characters
abbrev pub place_behind : Pos → List ℕ → Pos
place_behind at [] = at
place_behind at (c ∷ cs) = place_behind (behind_character at c) cs

-- what characters may be at one place: a token, or a blank
pub data Lexeme : Type 0 where
  of_kind : TokenKind → Lexeme
  blank : Lexeme

pub data IsLexeme : Bool → List ℕ → List ℕ → Lexeme → Type 0 where
  ordinary : {u rest : List ℕ} {k : TokenKind} → IsOrdinary u rest k → IsLexeme false u rest (of_kind k)
  between_tokens : {u rest : List ℕ} → IsBlank u rest → IsLexeme false u rest blank
  inside : {u rest : List ℕ} {k : TokenKind} → IsInString u rest k → IsLexeme true u rest (of_kind k)

-- the longest that the front of the text spells
pub record IsLongest (within : Bool) (u rest : List ℕ) (found : Lexeme) : Type 0 where
  pub lexeme : IsLexeme within u rest found
  pub longest : (v more : List ℕ) (other : Lexeme) → u ++ rest ≡ v ++ more → IsLexeme within v more other
      → length v ≤ length u

abbrev pub is_line_end : TokenKind → Bool
is_line_end kind.NewLine = true
is_line_end _ = false

-- the token counts, where this is open
abbrev pub counts : List Open → TokenKind → Bool
counts opens k = not (is_line_end k && drops_lines opens)

-- The text from this place on has these tokens, where this is open. END comes last, at the place of the end.
pub data AreTokens : List Open → Pos → List ℕ → List Token → Type 0 where
  at_end : {opens : List Open} {at : Pos} → in_string opens ≡ false
      → AreTokens opens at [] (record { kind = kind.End; pos = at } ∷ [])
  token : {opens : List Open} {at : Pos} {u rest : List ℕ} {k : TokenKind} {ts : List Token}
      → IsLongest (in_string opens) u rest (of_kind k) → counts opens k ≡ true
      → AreTokens (after_token k opens) (place_behind at u) rest ts
      → AreTokens opens at (u ++ rest) (record { kind = k; pos = at } ∷ ts)
  dropped : {opens : List Open} {at : Pos} {u rest : List ℕ} {k : TokenKind} {ts : List Token}
      → IsLongest (in_string opens) u rest (of_kind k) → counts opens k ≡ false
      → AreTokens opens (place_behind at u) rest ts → AreTokens opens at (u ++ rest) ts
  skipped : {opens : List Open} {at : Pos} {u rest : List ℕ} {ts : List Token}
      → IsLongest (in_string opens) u rest blank
      → AreTokens opens (place_behind at u) rest ts → AreTokens opens at (u ++ rest) ts

-- At this place no token begins: its character begins none, or the text ends in a string.
pub record NoneBegins (opens : List Open) (text : List ℕ) : Type 0 where
  pub none : (u rest : List ℕ) (found : Lexeme) → text ≡ u ++ rest → IsLexeme (in_string opens) u rest found → ⊥
  pub open_end : (0 < length text) ⊎ (in_string opens ≡ true)

-- the text from this place on has no tokens, since none begins at that one
pub data BreaksAt : List Open → Pos → List ℕ → Pos → Type 0 where
  here : {opens : List Open} {at : Pos} {text : List ℕ} → NoneBegins opens text → BreaksAt opens at text at
  behind_token : {opens : List Open} {at place : Pos} {u rest : List ℕ} {k : TokenKind}
      → IsLongest (in_string opens) u rest (of_kind k)
      → BreaksAt (after_token k opens) (place_behind at u) rest place → BreaksAt opens at (u ++ rest) place
  behind_blank : {opens : List Open} {at place : Pos} {u rest : List ℕ} → IsLongest (in_string opens) u rest blank
      → BreaksAt opens (place_behind at u) rest place → BreaksAt opens at (u ++ rest) place

abbrev pub text_start : Pos
text_start = record { line = 1; column = 1 }

-- the tokens of a text
abbrev pub AreTokensOf : List ℕ → List Token → Type 0
AreTokensOf text ts = AreTokens [] text_start text ts

-- the place at which a text has no token
abbrev pub IsLexRefusedAt : List ℕ → Pos → Type 0
IsLexRefusedAt text at = BreaksAt [] text_start text at

-- a text has at most one list of tokens
abbrev pub OneTokens : Type 0
OneTokens = (text : List ℕ) (ts us : List Token) → AreTokensOf text ts → AreTokensOf text us → ts ≡ us

-- a text has tokens, or a place at which it has none
abbrev pub TokensOrRefused : Type 0
TokensOrRefused = (text : List ℕ) → ((ts : List Token) × AreTokensOf text ts) ⊎ ((at : Pos) × IsLexRefusedAt text at)

-- not both
abbrev pub NotBoth : Type 0
NotBoth = (text : List ℕ) (ts : List Token) (at : Pos) → AreTokensOf text ts → IsLexRefusedAt text at → ⊥

-- there is at most one such place
abbrev pub OneRefusal : Type 0
OneRefusal = (text : List ℕ) (a b : Pos) → IsLexRefusedAt text a → IsLexRefusedAt text b → a ≡ b
