-- The tokens that productions name, and what they stand for.
use Rattle.std.specs.Prelude.{not, ℕ, Bool, true, false, ◌||◌, if◌then◌else◌, List, [], Option, None, Some}
pub use Rattle.kt_tree.specs.Tokens.{kind_is_end, is_end}
use Rattle.kt_tree.specs.declared.tokens.Token.{Token}
use Rattle.kt_tree.specs.declared.tokens.TokenKind.{TokenKind}
use Rattle.kt_tree.specs.declared.tokens.TokenKind.TheVariants as kind
use Rattle.kt_tree.specs.declared.tokens.Keyword.{Keyword}
use Rattle.kt_tree.specs.declared.tokens.Keyword.TheVariants as word
use Rattle.kt_tree.specs.declared.tokens.Sign.{Sign}
use Rattle.kt_tree.specs.declared.tokens.Sign.TheVariants as sign
use Rattle.kt_tree.specs.declared.tokens.SoftKeyword.TheVariants as soft
use Rattle.kt_tree.specs.declared.bodies.Literal.{Literal}
use Rattle.kt_tree.specs.declared.bodies.Literal.TheVariants as literal
use Rattle.kt_tree.specs.declared.bodies.TextPart.{TextPart}
use Rattle.kt_tree.specs.declared.bodies.TextPart.TheVariants as text
use Rattle.kt_tree.specs.declared.bodies.BinaryOperator.{BinaryOperator}
use Rattle.kt_tree.specs.declared.bodies.BinaryOperator.TheVariants as binary
use Rattle.kt_tree.specs.declared.bodies.PrefixOperator.{PrefixOperator}
use Rattle.kt_tree.specs.declared.bodies.PrefixOperator.TheVariants as prefix
use Rattle.kt_tree.specs.declared.bodies.AssignmentOperator.{AssignmentOperator}
use Rattle.kt_tree.specs.declared.bodies.AssignmentOperator.TheVariants as assignment
use Rattle.kt_tree.specs.declared.bodies.StepOperator.{StepOperator}
use Rattle.kt_tree.specs.declared.bodies.StepOperator.TheVariants as step
use Rattle.kt_tree.specs.declared.bodies.RangeOperator.{RangeOperator}
use Rattle.kt_tree.specs.declared.bodies.RangeOperator.TheVariants as range
use Rattle.kt_tree.specs.Tokens.{is_keyword, is_sign, is_soft_keyword, is_new_line}

-- one of two
abbrev pub either : (Token → Bool) → (Token → Bool) → Token → Bool
either a b token = a token || b token

-- a line's end or `;`
abbrev pub is_separator : Token → Bool
is_separator = either is_new_line (is_sign sign.Semicolon)

-- any token but `->`
abbrev pub is_no_arrow : Token → Bool
is_no_arrow token = not (is_sign sign.Arrow token)

-- what the arguments of a call begin with, behind its type arguments
abbrev pub opens_arguments : Token → Bool
opens_arguments = either (is_sign sign.OpenParenthesis) (is_sign sign.OpenBrace)

-- ---- with which tokens expressions begin

abbrev pub keyword_begins_expression : Keyword → Bool
keyword_begins_expression word.Break = true
keyword_begins_expression word.Continue = true
keyword_begins_expression word.False = true
keyword_begins_expression word.If = true
keyword_begins_expression word.Null = true
keyword_begins_expression word.Return = true
keyword_begins_expression word.This = true
keyword_begins_expression word.Throw = true
keyword_begins_expression word.True = true
keyword_begins_expression word.Try = true
keyword_begins_expression word.When = true
keyword_begins_expression _ = false

abbrev pub sign_begins_expression : Sign → Bool
sign_begins_expression sign.Minus = true
sign_begins_expression sign.Not = true
sign_begins_expression sign.OpenParenthesis = true
sign_begins_expression sign.OpenBrace = true
sign_begins_expression _ = false

abbrev pub kind_begins_expression : TokenKind → Bool
kind_begins_expression (kind.Identifier name) = true
kind_begins_expression (kind.Keyword k) = keyword_begins_expression k
kind_begins_expression (kind.Number n) = true
kind_begins_expression (kind.Character unit) = true
kind_begins_expression (kind.Sign s) = sign_begins_expression s
kind_begins_expression kind.OpenQuote = true
kind_begins_expression _ = false

abbrev pub begins_expression : Token → Bool
begins_expression token = kind_begins_expression token.kind

-- ---- names

-- the spelling of an identifier, or of the name in a string
abbrev pub kind_name : TokenKind → List ℕ
kind_name (kind.Identifier name) = name
kind_name (kind.NamePart name) = name
kind_name _ = []

abbrev pub name_of : Token → List ℕ
name_of token = kind_name token.kind

-- ---- literals

abbrev pub keyword_literal : Keyword → Option Literal
keyword_literal word.True = Some literal.True
keyword_literal word.False = Some literal.False
keyword_literal word.Null = Some literal.Null
keyword_literal _ = None

abbrev pub kind_literal : TokenKind → Option Literal
kind_literal (kind.Number n) = Some (literal.Number n)
kind_literal (kind.Character unit) = Some (literal.Character unit)
kind_literal (kind.Keyword k) = keyword_literal k
kind_literal _ = None

-- ---- strings

abbrev pub kind_is_open_quote : TokenKind → Bool
kind_is_open_quote kind.OpenQuote = true
kind_is_open_quote _ = false

abbrev pub kind_is_close_quote : TokenKind → Bool
kind_is_close_quote kind.CloseQuote = true
kind_is_close_quote _ = false

abbrev pub kind_is_name_part : TokenKind → Bool
kind_is_name_part (kind.NamePart name) = true
kind_is_name_part _ = false

abbrev pub kind_is_this_part : TokenKind → Bool
kind_is_this_part kind.ThisPart = true
kind_is_this_part _ = false

abbrev pub kind_is_open_template : TokenKind → Bool
kind_is_open_template kind.OpenTemplate = true
kind_is_open_template _ = false

abbrev pub kind_text : TokenKind → Option TextPart
kind_text (kind.Run units) = Some (text.Run units)
kind_text (kind.Escape unit) = Some (text.Escape unit)
kind_text kind.Dollar = Some text.Dollar
kind_text _ = None

abbrev pub is_open_quote : Token → Bool
is_open_quote token = kind_is_open_quote token.kind

abbrev pub is_close_quote : Token → Bool
is_close_quote token = kind_is_close_quote token.kind

abbrev pub is_name_part : Token → Bool
is_name_part token = kind_is_name_part token.kind

abbrev pub is_this_part : Token → Bool
is_this_part token = kind_is_this_part token.kind

abbrev pub is_open_template : Token → Bool
is_open_template token = kind_is_open_template token.kind

-- ---- tokens that stand for a value

-- what a token stands for, where it stands for something
abbrev pub Meaning : Type 0 → Type 0
Meaning A = Token → Option A

abbrev pub literal_of : Meaning Literal
literal_of token = kind_literal token.kind

abbrev pub text_of : Meaning TextPart
text_of token = kind_text token.kind

abbrev pub means : {A : Type 0} → (Token → Bool) → A → Meaning A → Meaning A
means test a other token = if test token then Some a else other token

abbrev pub nothing : {A : Type 0} → Meaning A
nothing token = None

abbrev pub disjunction_of : Meaning BinaryOperator
disjunction_of = means (is_sign sign.Disjunction) binary.Disjunction nothing

abbrev pub conjunction_of : Meaning BinaryOperator
conjunction_of = means (is_sign sign.Conjunction) binary.Conjunction nothing

abbrev pub equality_of : Meaning BinaryOperator
equality_of = means (is_sign sign.Equal) binary.Equal (means (is_sign sign.NotEqual) binary.NotEqual nothing)

abbrev pub comparison_of : Meaning BinaryOperator
comparison_of = means (is_sign sign.Less) binary.Less
    (means (is_sign sign.Greater) binary.Greater
    (means (is_sign sign.LessOrEqual) binary.LessOrEqual
    (means (is_sign sign.GreaterOrEqual) binary.GreaterOrEqual nothing)))

abbrev pub elvis_of : Meaning BinaryOperator
elvis_of = means (is_sign sign.Elvis) binary.Elvis nothing

abbrev pub infix_of : Meaning BinaryOperator
infix_of = means (is_soft_keyword soft.And) binary.And
    (means (is_soft_keyword soft.Or) binary.Or (means (is_soft_keyword soft.Xor) binary.Xor
    (means (is_soft_keyword soft.Shl) binary.Shl
    (means (is_soft_keyword soft.Shr) binary.Shr (means (is_soft_keyword soft.Ushr) binary.Ushr nothing)))))

abbrev pub additive_of : Meaning BinaryOperator
additive_of = means (is_sign sign.Plus) binary.Plus (means (is_sign sign.Minus) binary.Minus nothing)

abbrev pub multiplicative_of : Meaning BinaryOperator
multiplicative_of = means (is_sign sign.Times) binary.Times
    (means (is_sign sign.Divide) binary.Divide (means (is_sign sign.Remainder) binary.Remainder nothing))

abbrev pub prefix_of : Meaning PrefixOperator
prefix_of = means (is_sign sign.Minus) prefix.Negate (means (is_sign sign.Not) prefix.Not nothing)

-- whether it is `!is`
abbrev pub type_check_of : Meaning Bool
type_check_of = means (is_keyword word.Is) false (means (is_sign sign.NotIs) true nothing)

-- whether it is `as?`
abbrev pub cast_of : Meaning Bool
cast_of = means (is_keyword word.As) false (means (is_sign sign.SafeAs) true nothing)

-- whether it is `?.`
abbrev pub member_of : Meaning Bool
member_of = means (is_sign sign.Dot) false (means (is_sign sign.SafeDot) true nothing)

-- whether it is `var`
abbrev pub variable_of : Meaning Bool
variable_of = means (is_keyword word.Val) false (means (is_keyword word.Var) true nothing)

abbrev pub assignment_of : Meaning AssignmentOperator
assignment_of = means (is_sign sign.Assign) assignment.Set
    (means (is_sign sign.PlusAssign) assignment.Add (means (is_sign sign.MinusAssign) assignment.Subtract
    (means (is_sign sign.TimesAssign) assignment.Multiply
    (means (is_sign sign.DivideAssign) assignment.Divide
    (means (is_sign sign.RemainderAssign) assignment.Remainder nothing)))))

abbrev pub step_of : Meaning StepOperator
step_of = means (is_sign sign.Increment) step.Increment (means (is_sign sign.Decrement) step.Decrement nothing)

abbrev pub range_of : Meaning RangeOperator
range_of = means (is_sign sign.Range) range.Through (means (is_soft_keyword soft.Until) range.Until nothing)
