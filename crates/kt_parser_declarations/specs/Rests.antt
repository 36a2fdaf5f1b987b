-- The parts of the parser of declarations that functions of their own read.
use Rattle.std.specs.Prelude.{Bool, true, false, List, [], Option, Some, None, ◌⊎◌}
use Rattle.std.proofs.Common.{inr}
use Rattle.kt_base.specs.declared.refusals.Pos.{Pos}
use Rattle.kt_tree.specs.declared.tokens.Token.{Token}
use Rattle.kt_tree.specs.declared.tokens.Sign.TheVariants as sign
use Rattle.kt_tree.specs.declared.tokens.Keyword.TheVariants as word
use Rattle.kt_tree.specs.declared.bodies.TextPart.{TextPart}
use Rattle.kt_tree.specs.declared.declarations.FunctionModifiers.{FunctionModifiers}
use Rattle.kt_tree.specs.declared.declarations.ClassModifiers.{ClassModifiers}
use Rattle.kt_tree.specs.declared.declarations.ConstructorParameterKind.{ConstructorParameterKind}
use Rattle.kt_tree.specs.declared.declarations.ConstructorParameterKind.TheVariants as parameter
use Rattle.kt_tree.specs.declared.declarations.ConstantValue.{ConstantValue}
use Rattle.kt_tree.specs.declared.declarations.ConstantValue.TheVariants as value
use Rattle.kt_tree.specs.Tokens.{is_keyword, is_sign}
use Rattle.kt_tree.specs.Declarations as d
use Rattle.kt_tree.specs.Declarations.{TypeParameterTree, FunctionBodyTree, SuperArgumentsTree, MemberTree, DeclarationTree}
use Rattle.kt_grammar_parsers.specs.Parsers.{Parser, ◌>>=◌, ◌>>◌, pure, token, on, attempt, repeat}
use Rattle.kt_grammar.specs.Terminals.{is_close_quote, literal_of}
use Rattle.kt_grammar.specs.Readers.{meant, lines, expect, maybe_commas, several_items, separated}
use Rattle.kt_grammar.specs.Declarations.{Scope, Modified, start_of, may_be_generic, kind_of, arguments_at, outside, at_top, in_class}
use Rattle.kt_grammar.specs.ExpressionParser.{block_of}
use Rattle.kt_grammar.specs.DeclarationParser.{top, generic_if, property_rest, function_parser, text_turn, interface_rest, constant_rest, class_word, class_rest}

-- ---- lists

-- items between separators, without the token that closes them
abbrev pub items_until : {A : Type 0} → (Token → Bool) → Parser Token A → Parser Token (List A)
items_until close item = separated close item >>= (λ xs. pure xs.0)

-- behind ':'
abbrev pub supertypes_rest : {A : Type 0} → Parser Token A → Parser Token (List A)
supertypes_rest super = lines >> several_items (pure tt) super

-- n '{'
abbrev pub open_brace : Parser Token Token
open_brace = lines >> expect sign.OpenBrace

-- ---- modifiers

-- 'fun', behind these modifiers
abbrev pub fun_turn : Modified FunctionModifiers → Parser Token (Modified FunctionModifiers ⊎ (Pos × FunctionModifiers))
fun_turn m = token (is_keyword word.Fun) >>= (λ t. pure (inr (start_of m.start t, m.modifiers)))

-- 'class', behind these modifiers
abbrev pub class_keyword_turn : Modified ClassModifiers
    → Parser Token (Modified ClassModifiers ⊎ (Pos × ClassModifiers))
class_keyword_turn m = token (is_keyword word.Class) >>= (λ t. pure (inr (start_of m.start t, m.modifiers)))

-- ---- parameters

-- ('val' | 'var')?
abbrev pub parameter_kind : Parser Token ConstructorParameterKind
parameter_kind = attempt (meant kind_of) (λ k. pure k.1) (pure parameter.Plain)

-- ---- functions

abbrev pub type_parameters_in : Scope → Parser Token (List TypeParameterTree)
type_parameters_in scope = generic_if (may_be_generic scope)

-- n expr
abbrev pub result_body : Parser Token FunctionBodyTree
result_body = lines >> (top.disjunction outside >>= (λ a. pure (d.result a)))

-- n block
abbrev pub braces_body : Parser Token FunctionBodyTree
braces_body = lines >> (block_of (top.statement outside) >>= (λ b. pure (d.braces b)))

-- ---- classes

-- behind '('
abbrev pub super_arguments_rest : Token → Parser Token (Option SuperArgumentsTree)
super_arguments_rest open_ = maybe_commas (is_sign sign.CloseParenthesis) (top.disjunction outside)
    >>= (λ es. pure (Some (record { at = arguments_at open_ es; values = es })))

-- ('(' args? ')')?
abbrev pub super_arguments : Parser Token (Option SuperArgumentsTree)
super_arguments = on (is_sign sign.OpenParenthesis) super_arguments_rest (pure None)

abbrev pub property_member : Token × Bool → Parser Token MemberTree
property_member var = property_rest var >>= (λ p. pure (d.property p))

abbrev pub method_member : Parser Token MemberTree
method_member = function_parser in_class >>= (λ f. pure (d.method f))

-- ---- constants

-- the '"' that ends a string
abbrev pub text_end : List TextPart → Parser Token (List TextPart ⊎ List TextPart)
text_end ps = token is_close_quote >>= (λ _. pure (inr ps))

-- behind '"'
abbrev pub text_parts : Parser Token (List TextPart)
text_parts = repeat text_turn []

abbrev pub text_value : Parser Token ConstantValue
text_value = text_parts >>= (λ ps. pure (value.Text ps))

-- '-'?
abbrev pub minus : Parser Token Bool
minus = on (is_sign sign.Minus) (λ _. pure true) (pure false)

abbrev pub literal_behind : Bool → Parser Token ConstantValue
literal_behind negative = meant literal_of >>= (λ l. pure (value.Literal negative l.1))

-- '-'? literal
abbrev pub literal_value : Parser Token ConstantValue
literal_value = minus >>= literal_behind

-- ---- files

abbrev pub interface_declaration : Token → Parser Token DeclarationTree
interface_declaration t = interface_rest t >>= (λ i. pure (d.interface i))

abbrev pub constant_declaration : Token → Parser Token DeclarationTree
constant_declaration t = constant_rest t >>= (λ c. pure (d.constant c))

abbrev pub class_declaration : Pos × ClassModifiers → Parser Token DeclarationTree
class_declaration m = class_rest m >>= (λ c. pure (d.class c))

abbrev pub function_declaration : Parser Token DeclarationTree
function_declaration = function_parser at_top >>= (λ f. pure (d.function f))

-- a function and a class may begin with the same modifiers
abbrev pub class_or_function : Parser Token DeclarationTree
class_or_function = attempt class_word class_declaration function_declaration
