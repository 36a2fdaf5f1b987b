-- How the lexeme at the front of a text is found: its shape, and the characters behind it.
use Rattle.std.specs.Prelude.{
  ℕ,
  ◌+◌,
  ◌-◌,
  ◌*◌,
  ◌==◌,
  Bool,
  true,
  false,
  not,
  ◌&&◌,
  ◌||◌,
  if◌then◌else◌,
  List,
  [],
  ◌∷◌,
  Option,
  None,
  Some,
  length,
  take,
  drop,
}
use Rattle.std.specs.Option.{option_map}
use Rattle.std.specs.List.{find}
use Rattle.std.specs.Cmp.Lexicographic.{pointwise}
use Rattle.kt_base.specs.Text.{utf16_of}
use Rattle.kt_tree.specs.declared.tokens.TokenKind.{TokenKind}
use Rattle.kt_tree.specs.declared.tokens.TokenKind.TheVariants as kind
use Rattle.kt_tree.specs.declared.tokens.Keyword.{Keyword}
use Rattle.kt_tree.specs.declared.tokens.Keyword.TheVariants as word
use Rattle.kt_tree.specs.declared.tokens.Sign.{Sign}
use Rattle.kt_tree.specs.declared.tokens.Sign.TheVariants as sign
use Rattle.kt_tree.specs.Tokens.{same_keyword}
use Rattle.kt_base.specs.declared.refusals.Pos.{Pos}
use Rattle.kt_tree.specs.declared.tokens.Token.{Token}
use Rattle.kt_lexer.specs.declared.brackets.Open.{Open}
use Rattle.kt_lexer.specs.declared.characters.CharacterClass.{CharacterClass}
use Rattle.kt_lexer.specs.declared.characters.CharacterClass.TheVariants as class
use Rattle.kt_lexer.specs.declared.shapes.Shape.{Shape}
use Rattle.kt_lexer.specs.declared.shapes.Shape.TheVariants as shape
use Rattle.kt_lexer.specs.Lexemes.{
  first,
  AllPass,
  is_letter,
  is_digit,
  is_word,
  is_hexadecimal,
  hexadecimal,
  is_plain,
  is_run,
  keyword_text,
  value_of,
}
use Rattle.kt_lexer.specs.Texts.{Lexeme, of_kind, blank, in_string, after_token, counts}
use Rattle.kt_lexer.specs.Characters as char

-- a shape and the characters behind it
abbrev pub Found : Type 0
Found = Option (Shape × List ℕ)

-- the character is of this class
abbrev pub contains : CharacterClass → ℕ → Bool
contains class.Word = is_word
contains class.Digit = is_digit
contains class.Run = is_run

-- the characters behind those that come first and pass the test
abbrev pub behind : (ℕ → Bool) → List ℕ → List ℕ
behind test [] = []
behind test (c ∷ cs) = if test c then behind test cs else c ∷ cs

-- what was passed, where this is left
abbrev pub passed : List ℕ → List ℕ → List ℕ
passed text rest = take (length text - length rest) text

-- ---- words

unfoldable pub keywords : List Keyword
keywords = word.As ∷ word.Break ∷ word.Class ∷ word.Continue ∷ word.Do ∷ word.Else ∷ word.False ∷ word.For ∷ word.Fun
    ∷ word.If ∷ word.In ∷ word.Interface ∷ word.Is ∷ word.Null
    ∷ word.Object ∷ word.Package ∷ word.Return ∷ word.Super ∷ word.This ∷ word.Throw ∷ word.True ∷ word.Try
    ∷ word.TypeAlias ∷ word.TypeOf ∷ word.Val ∷ word.Var ∷ word.When ∷ word.While ∷ []

-- the keyword that is written so
unfoldable pub keyword_of : List ℕ → Option Keyword
keyword_of text = find (λ k. pointwise ◌==◌ (keyword_text k) text) keywords

abbrev pub word_shape : Option Keyword → Shape
word_shape None = shape.Name
word_shape (Some k) = shape.Keyword k

-- what stands behind `as?`
abbrev pub behind_safe_as : List ℕ → Option (List ℕ)
behind_safe_as (a ∷ b ∷ c ∷ rest) = if (a == char.lower_a) && (b == char.lower_s) && (c == char.question_mark)
    then Some rest else None
behind_safe_as _ = None

abbrev pub safe_as_or : Option (List ℕ) → Shape × List ℕ → Shape × List ℕ
safe_as_or None other = other
safe_as_or (Some rest) other = (shape.Sign sign.SafeAs, rest)

-- `as?`, a keyword or a name, where a letter stands first
unfoldable pub word_at : List ℕ → Shape × List ℕ
word_at text =
    safe_as_or (behind_safe_as text) (
      word_shape (keyword_of (passed text (behind is_word text))),
      behind is_word text,
    )

-- ---- numbers

-- what stands behind `0`, or behind digits
abbrev pub behind_number : List ℕ → List ℕ
behind_number [] = []
behind_number (c ∷ cs) = if c == char.zero then cs else behind is_digit (c ∷ cs)

-- the number, long where an `L` follows
abbrev pub numbered : Option ℕ → List ℕ → Shape × List ℕ
numbered value [] = (shape.Number (record { value = value; long = false }), [])
numbered value (c ∷ cs) = if c == char.upper_l then (shape.Number (record { value = value; long = true }), cs)
    else (shape.Number (record { value = value; long = false }), c ∷ cs)

-- a number, where a digit stands first
unfoldable pub number_at : List ℕ → Shape × List ℕ
number_at text = numbered (value_of (passed text (behind_number text))) (behind_number text)

-- ---- characters and escapes

-- what `\` and this character stand for
unfoldable pub simple_escape : ℕ → Option ℕ
simple_escape c = if c == char.lower_t then Some char.tab else if c == char.lower_b then Some char.backspace
    else if c == char.lower_n then Some char.line_feed else if c == char.lower_r then Some char.carriage_return
    else if c == char.quote then Some char.quote else if c == char.double_quote then Some char.double_quote
    else if c == char.backslash then Some char.backslash else if c == char.dollar then Some char.dollar else None

-- the code unit of four hexadecimal digits
abbrev pub unit_of : ℕ → ℕ → ℕ → ℕ → ℕ
unit_of a b c d = 4096 * hexadecimal a + 256 * hexadecimal b + 16 * hexadecimal c + hexadecimal d

-- four hexadecimal digits
unfoldable pub four_digits : List ℕ → Option (ℕ × List ℕ)
four_digits (a ∷ b ∷ c ∷ d ∷ rest) = if is_hexadecimal a && is_hexadecimal b && is_hexadecimal c && is_hexadecimal d
    then Some (unit_of a b c d, rest) else None
four_digits _ = None

abbrev pub simple_or : Option ℕ → List ℕ → Option (ℕ × List ℕ)
simple_or None rest = None
simple_or (Some unit) rest = Some (unit, rest)

-- an escape whose `\` has been read
unfoldable pub escape_at : List ℕ → Option (ℕ × List ℕ)
escape_at [] = None
escape_at (c ∷ cs) = if c == char.lower_u then four_digits cs else simple_or (simple_escape c) cs

-- the character, where the closing `'` follows
abbrev pub closed_character : ℕ → List ℕ → Found
closed_character unit [] = None
closed_character unit (c ∷ cs) = if c == char.quote then Some (shape.Character unit, cs) else None

abbrev pub escaped_character : Option (ℕ × List ℕ) → Found
escaped_character None = None
escaped_character (Some found) = closed_character found.0 found.1

-- a character whose opening `'` has been read
unfoldable pub character_at : List ℕ → Found
character_at [] = None
character_at (c ∷ cs) = if is_plain c then closed_character c cs
    else if c == char.backslash then escaped_character (escape_at cs) else None

-- ---- comments

-- a line's end is at the front, where the text doesn't end before
abbrev pub at_line_end : ℕ → List ℕ → Bool
at_line_end c cs = (c == char.line_feed) || ((c == char.carriage_return) && first (λ d. d == char.line_feed) cs)

-- from the line's end on
abbrev pub line_rest : List ℕ → List ℕ
line_rest [] = []
line_rest (c ∷ cs) = if at_line_end c cs then c ∷ cs else line_rest cs

abbrev pub opens_comment : ℕ → ℕ → Bool
opens_comment c d = (c == char.slash) && (d == char.asterisk)

abbrev pub closes_comment : ℕ → ℕ → Bool
closes_comment c d = (c == char.asterisk) && (d == char.slash)

-- what stands behind a comment that lies inside so many others, and behind these
abbrev pub comment_rest : ℕ → List ℕ → Option (List ℕ)
comment_rest depth [] = None
comment_rest depth (c ∷ []) = None
comment_rest depth (c ∷ d ∷ cs) = if opens_comment c d then comment_rest (depth + 1) cs
    else if closes_comment c d then (if depth == 0 then Some cs else comment_rest (depth - 1) cs)
    else comment_rest depth (d ∷ cs)

abbrev pub blank_before : Option (List ℕ) → Found
blank_before None = None
blank_before (Some rest) = Some (shape.Blank, rest)

-- ---- signs

-- the sign of these two characters
unfoldable pub double_sign : ℕ → ℕ → Option Sign
double_sign c d =
    if c == char.plus then (if d == char.plus then Some sign.Increment
    else if d == char.equals then Some sign.PlusAssign else None)
    else if c == char.minus then (if d == char.minus then Some sign.Decrement
    else if d == char.equals then Some sign.MinusAssign else if d == char.greater then Some sign.Arrow else None)
    else if c == char.exclamation_mark then
    (if d == char.equals then Some sign.NotEqual else if d == char.exclamation_mark then Some sign.NotNull else None)
    else if c == char.question_mark then
    (if d == char.dot then Some sign.SafeDot else if d == char.colon then Some sign.Elvis else None)
    else if d == char.equals then (if c == char.asterisk then Some sign.TimesAssign
    else if c == char.slash then Some sign.DivideAssign else if c == char.percent then Some sign.RemainderAssign
    else if c == char.equals then Some sign.Equal else if c == char.less then Some sign.LessOrEqual
    else if c == char.greater then Some sign.GreaterOrEqual else None)
    else if not (c == d) then None
    else if c == char.ampersand then Some sign.Conjunction else if c == char.bar then Some sign.Disjunction
    else if c == char.dot then Some sign.Range else None

-- the sign of this character
unfoldable pub single_sign : ℕ → Option Sign
single_sign c =
    if c == char.open_parenthesis then Some sign.OpenParenthesis
    else if c == char.close_parenthesis then Some sign.CloseParenthesis
    else if c == char.open_bracket then Some sign.OpenBracket
    else if c == char.close_bracket then Some sign.CloseBracket
    else if c == char.open_brace then Some sign.OpenBrace else if c == char.close_brace then Some sign.CloseBrace
    else if c == char.dot then Some sign.Dot else if c == char.comma then Some sign.Comma
    else if c == char.colon then Some sign.Colon else if c == char.semicolon then Some sign.Semicolon
    else if c == char.equals then Some sign.Assign else if c == char.plus then Some sign.Plus
    else if c == char.minus then Some sign.Minus else if c == char.asterisk then Some sign.Times
    else if c == char.slash then Some sign.Divide else if c == char.percent then Some sign.Remainder
    else if c == char.less then Some sign.Less else if c == char.greater then Some sign.Greater
    else if c == char.exclamation_mark then Some sign.Not
    else if c == char.question_mark then Some sign.Question else None

abbrev pub single_at : Option Sign → List ℕ → Found
single_at None rest = None
single_at (Some s) rest = Some (shape.Sign s, rest)

abbrev pub double_or : Option Sign → List ℕ → Found → Found
double_or None rest other = other
double_or (Some s) rest other = Some (shape.Sign s, rest)

-- the longest sign that begins with this character
unfoldable pub sign_at : ℕ → List ℕ → Found
sign_at c [] = single_at (single_sign c) []
sign_at c (d ∷ rest) = double_or (double_sign c d) rest (single_at (single_sign c) (d ∷ rest))

-- a comment or a sign whose first `/` has been read
unfoldable pub slash_at : List ℕ → Found
slash_at [] = sign_at char.slash []
slash_at (d ∷ cs) = if d == char.slash then Some (shape.Blank, line_rest cs)
    else if d == char.asterisk then blank_before (comment_rest 0 cs) else sign_at char.slash (d ∷ cs)

-- what stands behind `is`, where no letter, digit or `_` follows
abbrev pub behind_is : List ℕ → Option (List ℕ)
behind_is (c ∷ d ∷ rest) = if (c == char.lower_i) && (d == char.lower_s) && not (first is_word rest)
    then Some rest else None
behind_is _ = None

-- a sign whose first `!` has been read
unfoldable pub exclamation_at : List ℕ → Found
exclamation_at text =
    double_or (option_map (λ rest. sign.NotIs) (behind_is text)) (drop 2 text) (sign_at char.exclamation_mark text)

-- ---- what stands outside of strings

-- a line feed behind a carriage return
abbrev pub line_feed_at : List ℕ → Found
line_feed_at [] = None
line_feed_at (c ∷ cs) = if c == char.line_feed then Some (shape.NewLine, cs) else None

unfoldable pub ordinary_at : List ℕ → Found
ordinary_at [] = None
ordinary_at (c ∷ cs) = if is_letter c then Some (word_at (c ∷ cs))
    else if is_digit c then Some (number_at (c ∷ cs))
    else if (c == char.space) || (c == char.tab) then Some (shape.Blank, cs)
    else if c == char.line_feed then Some (shape.NewLine, cs)
    else if c == char.carriage_return then line_feed_at cs
    else if c == char.double_quote then Some (shape.OpenQuote, cs)
    else if c == char.quote then character_at cs
    else if c == char.slash then slash_at cs
    else if c == char.exclamation_mark then exclamation_at cs
    else sign_at c cs

-- ---- what stands in strings

-- the word behind a `$`: a name or `this`, else the `$` stands alone
abbrev pub part_before : Option Keyword → List ℕ → List ℕ → Shape × List ℕ
part_before None rest text = (shape.NamePart, rest)
part_before (Some k) rest text = if same_keyword k word.This then (shape.ThisPart, rest) else (shape.Dollar, text)

abbrev pub part_at : List ℕ → Shape × List ℕ
part_at text = part_before (keyword_of (passed text (behind is_word text))) (behind is_word text) text

-- what begins with a `$` that has been read
unfoldable pub dollar_at : List ℕ → Shape × List ℕ
dollar_at [] = (shape.Dollar, [])
dollar_at (c ∷ cs) = if is_letter c then part_at (c ∷ cs)
    else if c == char.open_brace then (shape.OpenTemplate, cs)
    else (shape.Dollar, c ∷ cs)

abbrev pub string_escape : Option (ℕ × List ℕ) → Found
string_escape None = None
string_escape (Some found) = Some (shape.Escape found.0, found.1)

unfoldable pub string_part_at : List ℕ → Found
string_part_at [] = None
string_part_at (c ∷ cs) = if is_run c then Some (shape.Run, behind is_run cs)
    else if c == char.double_quote then Some (shape.CloseQuote, cs)
    else if c == char.dollar then Some (dollar_at cs)
    else if c == char.backslash then string_escape (escape_at cs)
    else None

-- the lexeme at the front of a text, within a string or not
abbrev pub shape_at : Bool → List ℕ → Found
shape_at within text = if within then string_part_at text else ordinary_at text

-- what a shape with these characters is
abbrev pub lexeme_of : Shape → List ℕ → Lexeme
lexeme_of shape.Blank u = blank
lexeme_of shape.NewLine u = of_kind kind.NewLine
lexeme_of shape.Name u = of_kind (kind.Identifier u)
lexeme_of (shape.Keyword k) u = of_kind (kind.Keyword k)
lexeme_of (shape.Number n) u = of_kind (kind.Number n)
lexeme_of (shape.Character unit) u = of_kind (kind.Character unit)
lexeme_of (shape.Sign s) u = of_kind (kind.Sign s)
lexeme_of shape.OpenQuote u = of_kind kind.OpenQuote
lexeme_of shape.CloseQuote u = of_kind kind.CloseQuote
lexeme_of shape.Run u = of_kind (kind.Run (utf16_of u))
lexeme_of (shape.Escape unit) u = of_kind (kind.Escape unit)
lexeme_of shape.NamePart u = of_kind (kind.NamePart (drop 1 u))
lexeme_of shape.ThisPart u = of_kind kind.ThisPart
lexeme_of shape.OpenTemplate u = of_kind kind.OpenTemplate
lexeme_of shape.Dollar u = of_kind kind.Dollar

-- a token, or a blank where there is none
abbrev pub lexeme_of_kind : Option TokenKind → Lexeme
lexeme_of_kind None = blank
lexeme_of_kind (Some k) = of_kind k

-- a name consists of letters, digits and `_`
abbrev pub NamesAreWords : Lexeme → Type 0
NamesAreWords (of_kind (kind.Identifier name)) = AllPass is_word name
NamesAreWords (of_kind (kind.NamePart name)) = AllPass is_word name
NamesAreWords _ = Unit {0}

-- ---- from one lexeme to the next

-- what is open behind a lexeme
abbrev pub after_lexeme : Lexeme → List Open → List Open
after_lexeme blank opens = opens
after_lexeme (of_kind k) opens = after_token k opens

-- the token of a lexeme, if it counts
abbrev pub seen : List Open → Pos → Lexeme → List Token
seen opens at blank = []
seen opens at (of_kind k) = if counts opens k then record { kind = k; pos = at } ∷ [] else []

-- the text ends here, outside of strings
abbrev pub has_ended : List Open → List ℕ → Bool
has_ended opens [] = not (in_string opens)
has_ended opens (c ∷ cs) = false
