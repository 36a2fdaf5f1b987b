-- Classes of tokens that productions ask for.
use Rattle.std.specs.Prelude.{Bool}
use Rattle.kt_tree.specs.declared.tokens.Token.{Token}
use Rattle.kt_tree.specs.declared.tokens.Sign.TheVariants as sign
use Rattle.kt_tree.specs.Tokens.{is_end, is_sign}
use Rattle.kt_grammar.specs.Terminals.{is_separator, is_no_arrow, opens_arguments, begins_expression, is_open_quote, is_close_quote, is_name_part, is_this_part, is_open_template}
use Rattle.kt_parser_steps.specs.declared.classes.TokenClass.{TokenClass}
use Rattle.kt_parser_steps.specs.declared.classes.TokenClass.TheVariants as class

abbrev pub is_of : TokenClass → Token → Bool
is_of class.Separator = is_separator
is_of class.CloseBrace = is_sign sign.CloseBrace
is_of class.End = is_end
is_of class.OpensArguments = opens_arguments
is_of class.BeginsExpression = begins_expression
is_of class.NoArrow = is_no_arrow
is_of class.OpenQuote = is_open_quote
is_of class.CloseQuote = is_close_quote
is_of class.NamePart = is_name_part
is_of class.ThisPart = is_this_part
is_of class.OpenTemplate = is_open_template
