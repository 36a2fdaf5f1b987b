-- Which characters spell a token, or a blank between tokens (Kotlin specification, "Syntax and grammar", "Lexical
-- grammar", in the profile of this language). Characters are Unicode scalar values.
use Rattle.std.specs.Prelude.{
  ◌≡◌,
  ℕ,
  ◌+◌,
  ◌-◌,
  ◌*◌,
  ◌^◌,
  nat_le,
  nat_lt,
  ◌==◌,
  Bool,
  true,
  false,
  not,
  ◌&&◌,
  ◌||◌,
  if◌then◌else◌,
  List,
  [],
  ◌∷◌,
  ◌++◌,
  Option,
  None,
  Some,
  ◌⊎◌,
}
use Rattle.kt_base.specs.Text.{utf16_of}
use Rattle.kt_tree.specs.declared.tokens.TokenKind.{TokenKind}
use Rattle.kt_tree.specs.declared.tokens.TokenKind.TheVariants as kind
use Rattle.kt_tree.specs.declared.tokens.Keyword.{Keyword}
use Rattle.kt_tree.specs.declared.tokens.Keyword.TheVariants as word
use Rattle.kt_tree.specs.declared.tokens.Sign.{Sign}
use Rattle.kt_tree.specs.declared.tokens.Sign.TheVariants as sign
use Rattle.std.specs.Prelude.{codes}
use Rattle.kt_lexer.specs.Characters as char

-- there is a first character, and it passes the test
abbrev pub first : (ℕ → Bool) → List ℕ → Bool
first test [] = false
first test (c ∷ cs) = test c

-- each character passes the test
abbrev pub AllPass : (ℕ → Bool) → List ℕ → Type 0
AllPass test [] = Unit {0}
AllPass test (c ∷ cs) = (test c ≡ true) × AllPass test cs

-- ---- characters

abbrev pub between : ℕ → ℕ → ℕ → Bool
between low high c = nat_le low c && nat_le c high

-- an ASCII letter or `_`
abbrev pub is_letter : ℕ → Bool
is_letter c = between char.upper_a char.upper_z c || between char.lower_a char.lower_z c || (c == char.underscore)

abbrev pub is_digit : ℕ → Bool
is_digit = between char.zero char.nine

-- a letter, a digit or `_`
abbrev pub is_word : ℕ → Bool
is_word c = is_letter c || is_digit c

abbrev pub is_hexadecimal : ℕ → Bool
is_hexadecimal c = is_digit c || between char.upper_a char.upper_f c || between char.lower_a char.lower_f c

-- the value of a hexadecimal digit
abbrev pub hexadecimal : ℕ → ℕ
hexadecimal c = if is_digit c then c - char.zero
    else (if nat_le char.lower_a c then c - char.lower_a + 10 else c - char.upper_a + 10)

-- the list begins with the other
abbrev pub begins : List ℕ → List ℕ → Bool
begins [] text = true
begins (c ∷ cs) [] = false
begins (c ∷ cs) (d ∷ text) = (d == c) && begins cs text

-- ---- words

abbrev pub keyword_text : Keyword → List ℕ
keyword_text word.As = codes "as"
keyword_text word.Break = codes "break"
keyword_text word.Class = codes "class"
keyword_text word.Continue = codes "continue"
keyword_text word.Do = codes "do"
keyword_text word.Else = codes "else"
keyword_text word.False = codes "false"
keyword_text word.For = codes "for"
keyword_text word.Fun = codes "fun"
keyword_text word.If = codes "if"
keyword_text word.In = codes "in"
keyword_text word.Interface = codes "interface"
keyword_text word.Is = codes "is"
keyword_text word.Null = codes "null"
keyword_text word.Object = codes "object"
keyword_text word.Package = codes "package"
keyword_text word.Return = codes "return"
keyword_text word.Super = codes "super"
keyword_text word.This = codes "this"
keyword_text word.Throw = codes "throw"
keyword_text word.True = codes "true"
keyword_text word.Try = codes "try"
keyword_text word.TypeAlias = codes "typealias"
keyword_text word.TypeOf = codes "typeof"
keyword_text word.Val = codes "val"
keyword_text word.Var = codes "var"
keyword_text word.When = codes "when"
keyword_text word.While = codes "while"

abbrev pub sign_text : Sign → List ℕ
sign_text sign.Plus = codes "+"
sign_text sign.Minus = codes "-"
sign_text sign.Times = codes "*"
sign_text sign.Divide = codes "/"
sign_text sign.Remainder = codes "%"
sign_text sign.Increment = codes "++"
sign_text sign.Decrement = codes "--"
sign_text sign.PlusAssign = codes "+="
sign_text sign.MinusAssign = codes "-="
sign_text sign.TimesAssign = codes "*="
sign_text sign.DivideAssign = codes "/="
sign_text sign.RemainderAssign = codes "%="
sign_text sign.Assign = codes "="
sign_text sign.Equal = codes "=="
sign_text sign.NotEqual = codes "!="
sign_text sign.Less = codes "<"
sign_text sign.Greater = codes ">"
sign_text sign.LessOrEqual = codes "<="
sign_text sign.GreaterOrEqual = codes ">="
sign_text sign.Conjunction = codes "&&"
sign_text sign.Disjunction = codes "||"
sign_text sign.Not = codes "!"
sign_text sign.NotNull = codes "!!"
sign_text sign.Question = codes "?"
sign_text sign.SafeDot = codes "?."
sign_text sign.Elvis = codes "?:"
sign_text sign.Dot = codes "."
sign_text sign.Range = codes ".."
sign_text sign.Comma = codes ","
sign_text sign.Colon = codes ":"
sign_text sign.Semicolon = codes ";"
sign_text sign.Arrow = codes "->"
sign_text sign.OpenParenthesis = codes "("
sign_text sign.CloseParenthesis = codes ")"
sign_text sign.OpenBracket = codes "["
sign_text sign.CloseBracket = codes "]"
sign_text sign.OpenBrace = codes "{"
sign_text sign.CloseBrace = codes "}"
sign_text sign.SafeAs = codes "as?"
sign_text sign.NotIs = codes "!is"

-- a letter, then letters and digits, and none of them follows
pub record IsWord (u rest : List ℕ) : Type 0 where
  pub letter : first is_letter u ≡ true
  pub word : AllPass is_word u
  pub whole : first is_word rest ≡ false

-- a word that is no keyword
pub record IsNameText (u rest : List ℕ) : Type 0 where
  pub word : IsWord u rest
  pub free : (k : Keyword) → keyword_text k ≡ u → ⊥

-- ---- numbers

-- `0`, or a digit from 1 to 9 with further digits
pub record IsDigits (u : List ℕ) : Type 0 where
  pub digit : first is_digit u ≡ true
  pub digits : AllPass is_digit u
  pub lead : (u ≡ char.zero ∷ []) ⊎ (first (between char.one char.nine) u ≡ true)

abbrev pub number_after : ℕ → List ℕ → ℕ
number_after n [] = n
number_after n (c ∷ cs) = number_after (10 * n + (c - char.zero)) cs

-- the number, where it is at most the greatest `Long`
abbrev pub value_of : List ℕ → Option ℕ
value_of digits = if nat_lt (number_after 0 digits) (2 ^ 63) then Some (number_after 0 digits) else None

-- ---- characters and escapes

-- `\t \b \n \r \' \" \\ \$`, and the code unit that each stands for
pub data IsSimpleEscape : ℕ → ℕ → Type 0 where
  tab : IsSimpleEscape char.lower_t char.tab
  backspace : IsSimpleEscape char.lower_b char.backspace
  line_feed : IsSimpleEscape char.lower_n char.line_feed
  carriage_return : IsSimpleEscape char.lower_r char.carriage_return
  quote : IsSimpleEscape char.quote char.quote
  double_quote : IsSimpleEscape char.double_quote char.double_quote
  backslash : IsSimpleEscape char.backslash char.backslash
  dollar : IsSimpleEscape char.dollar char.dollar

-- `\` and a simple escape, or `\u` with four hexadecimal digits
pub data IsEscape : List ℕ → ℕ → Type 0 where
  simple : {c unit : ℕ} → IsSimpleEscape c unit → IsEscape (char.backslash ∷ c ∷ []) unit
  by_digits : (a b c d : ℕ) → AllPass is_hexadecimal (a ∷ b ∷ c ∷ d ∷ [])
      → IsEscape (char.backslash ∷ char.lower_u ∷ a ∷ b ∷ c ∷ d ∷ [])
      (4096 * hexadecimal a + 256 * hexadecimal b + 16 * hexadecimal c + hexadecimal d)

-- stands in a character literal by itself: of the basic plane, and no `'`, `\`, LF or CR
abbrev pub is_plain : ℕ → Bool
is_plain c =
    nat_lt c 65536 && not ((c == char.quote) || (c == char.backslash) || (c == char.line_feed)
    || (c == char.carriage_return))

-- stands in a run of a string: no `"`, `\`, `$`, LF or CR
abbrev pub is_run : ℕ → Bool
is_run c =
    not ((c == char.double_quote) || (c == char.backslash) || (c == char.dollar) || (c == char.line_feed)
    || (c == char.carriage_return))

-- ---- comments

-- what stands behind the `/*` of a comment, up to and with its `*/`
pub data IsCommentRest : List ℕ → Type 0 where
  closed : IsCommentRest (char.asterisk ∷ char.slash ∷ [])
  nested : {u v : List ℕ} → IsCommentRest u → IsCommentRest v → IsCommentRest (char.slash ∷ char.asterisk ∷ (u ++ v))
  more : {c : ℕ} {u : List ℕ} → begins (codes "*/") (c ∷ u) ≡ false → begins (codes "/*") (c ∷ u) ≡ false
      → IsCommentRest u → IsCommentRest (c ∷ u)

-- a line's end begins here: LF, CR LF, or the end of the text
pub data AtLineEnd : List ℕ → Type 0 where
  at_end : AtLineEnd []
  at_line_feed : {rest : List ℕ} → AtLineEnd (char.line_feed ∷ rest)
  at_both : {rest : List ℕ} → AtLineEnd (char.carriage_return ∷ char.line_feed ∷ rest)

-- the characters up to the first line's end
pub data IsToLineEnd : List ℕ → List ℕ → Type 0 where
  here : {rest : List ℕ} → AtLineEnd rest → IsToLineEnd [] rest
  there : {c : ℕ} {u rest : List ℕ} → (AtLineEnd (c ∷ (u ++ rest)) → ⊥) → IsToLineEnd u rest → IsToLineEnd (c ∷ u) rest

-- a space, a tab or a comment
pub data IsBlank : List ℕ → List ℕ → Type 0 where
  space : {rest : List ℕ} → IsBlank (char.space ∷ []) rest
  tabulator : {rest : List ℕ} → IsBlank (char.tab ∷ []) rest
  line_comment : {u rest : List ℕ} → IsToLineEnd u rest → IsBlank (char.slash ∷ char.slash ∷ u) rest
  comment : {u rest : List ℕ} → IsCommentRest u → IsBlank (char.slash ∷ char.asterisk ∷ u) rest

-- ---- tokens

-- what a sign may not be followed by: `!is` by no letter, digit or `_`, and none begins a comment
abbrev pub may_follow : Sign → List ℕ → Bool
may_follow sign.NotIs rest = not (first is_word rest)
may_follow sign.Divide rest = not (first (λ c. c == char.asterisk) rest)
may_follow _ rest = true

-- the tokens outside of strings: the characters, what follows, and the kind
pub data IsOrdinary : List ℕ → List ℕ → TokenKind → Type 0 where
  identifier : {u rest : List ℕ} → IsNameText u rest → IsOrdinary u rest (kind.Identifier u)
  keyword : (k : Keyword) {rest : List ℕ} → IsWord (keyword_text k) rest
      → IsOrdinary (keyword_text k) rest (kind.Keyword k)
  number : {u rest : List ℕ} → IsDigits u
      → IsOrdinary u rest (kind.Number (record { value = value_of u; long = false }))
  long_number : {u rest : List ℕ} → IsDigits u
      → IsOrdinary (u ++ char.upper_l ∷ []) rest (kind.Number (record { value = value_of u; long = true }))
  character : {c : ℕ} {rest : List ℕ} → is_plain c ≡ true
      → IsOrdinary (char.quote ∷ c ∷ char.quote ∷ []) rest (kind.Character c)
  escaped_character : {u rest : List ℕ} {unit : ℕ} → IsEscape u unit
      → IsOrdinary (char.quote ∷ (u ++ char.quote ∷ [])) rest (kind.Character unit)
  mark : (s : Sign) {rest : List ℕ} → may_follow s rest ≡ true → IsOrdinary (sign_text s) rest (kind.Sign s)
  open_quote : {rest : List ℕ} → IsOrdinary (char.double_quote ∷ []) rest kind.OpenQuote
  line_feed_alone : {rest : List ℕ} → IsOrdinary (char.line_feed ∷ []) rest kind.NewLine
  both_line_ends : {rest : List ℕ} → IsOrdinary (char.carriage_return ∷ char.line_feed ∷ []) rest kind.NewLine

-- the tokens in a string
pub data IsInString : List ℕ → List ℕ → TokenKind → Type 0 where
  run : {c : ℕ} {u rest : List ℕ} → AllPass is_run (c ∷ u) → IsInString (c ∷ u) rest (kind.Run (utf16_of (c ∷ u)))
  escape : {u rest : List ℕ} {unit : ℕ} → IsEscape u unit → IsInString u rest (kind.Escape unit)
  name_part : {u rest : List ℕ} → IsNameText u rest → IsInString (char.dollar ∷ u) rest (kind.NamePart u)
  this_part : {rest : List ℕ} → IsWord (keyword_text word.This) rest
      → IsInString (char.dollar ∷ keyword_text word.This) rest kind.ThisPart
  open_template : {rest : List ℕ} → IsInString (char.dollar ∷ char.open_brace ∷ []) rest kind.OpenTemplate
  dollar_alone : {rest : List ℕ} → IsInString (char.dollar ∷ []) rest kind.Dollar
  close_quote : {rest : List ℕ} → IsInString (char.double_quote ∷ []) rest kind.CloseQuote
