-- Parsers of declarations and files.
use Rattle.std.specs.Prelude.{
  ℕ,
  Bool,
  true,
  false,
  not,
  List,
  [],
  ◌∷◌,
  ◌++◌,
  length,
  ◌-◌,
  Option,
  None,
  Some,
  is_some,
  Ok,
  Err,
  ◌⊎◌,
}
use Rattle.std.proofs.Common.{inl, inr}
use Rattle.kt_base.specs.declared.refusals.Pos.{Pos}
use Rattle.kt_tree.specs.declared.tokens.Token.{Token}
use Rattle.kt_tree.specs.declared.tokens.Sign.TheVariants as sign
use Rattle.kt_tree.specs.declared.tokens.Keyword.TheVariants as word
use Rattle.kt_tree.specs.declared.tokens.SoftKeyword.{SoftKeyword}
use Rattle.kt_tree.specs.declared.tokens.SoftKeyword.TheVariants as soft
use Rattle.kt_tree.specs.declared.bodies.TextPart.{TextPart}
use Rattle.kt_tree.specs.declared.declarations.FunctionModifiers.{FunctionModifiers}
use Rattle.kt_tree.specs.declared.declarations.ClassModifiers.{ClassModifiers}
use Rattle.kt_tree.specs.declared.declarations.ConstructorParameterKind.TheVariants as parameter
use Rattle.kt_tree.specs.declared.declarations.EnumEntry.{EnumEntry}
use Rattle.kt_tree.specs.declared.declarations.ConstantValue.{ConstantValue}
use Rattle.kt_tree.specs.declared.declarations.ConstantValue.TheVariants as value
use Rattle.kt_tree.specs.Tokens.{is_keyword, is_sign, is_soft_keyword, is_identifier}
use Rattle.kt_tree.specs.Types.{TypeTree}
use Rattle.kt_tree.specs.Declarations as d
use Rattle.kt_tree.specs.Declarations.{
  TypeParameterTree,
  TypedParameterTree,
  FunctionBodyTree,
  FunctionTree,
  ConstructorParameterTree,
  SupertypeTree,
  PropertyTree,
  MemberTree,
  ClassTree,
  InterfaceTree,
  ConstantTree,
  DeclarationTree,
}
use Rattle.kt_grammar_parsers.specs.Parsers.{Outcome, Parser, cursor, ◌>>=◌, ◌>>◌, pure, token, on, attempt, repeat}
use Rattle.kt_grammar.specs.Terminals.{name_of, is_end, is_open_quote, is_close_quote, literal_of, text_of, variable_of}
use Rattle.kt_grammar.specs.Declarations.{
  Scope,
  Modified,
  first_place,
  start_of,
  has_body,
  may_be_generic,
  kind_of,
  arguments_at,
  outside,
  most_levels,
  at_top,
  in_class,
  in_interface,
}
use Rattle.kt_grammar.specs.Readers.{
  meant,
  on_if,
  lines,
  expect,
  maybe,
  commas,
  maybe_commas,
  several_items,
  separated,
  named_type,
  type_parser,
}
use Rattle.kt_grammar.specs.ExpressionParser.{Parsers, block_of}
use Rattle.kt_grammar.specs.StatementParser.{parsers}

abbrev pub top : Parsers
top = parsers most_levels

abbrev pub any_type : Parser Token TypeTree
any_type = type_parser most_levels

abbrev pub type_parameter : Parser Token TypeParameterTree
type_parameter = token is_identifier
    >>= (λ x. maybe (is_sign sign.Colon) any_type >>= (λ t. pure (record { name = name_of x; bound = t })))

abbrev pub type_parameters : Parser Token (List TypeParameterTree)
type_parameters = on (is_sign sign.Less) (λ _. commas (is_sign sign.Greater) type_parameter) (pure [])

abbrev pub typed_parameter : Parser Token TypedParameterTree
typed_parameter = do
  x ← token is_identifier
  expect sign.Colon
  t ← any_type
  pure (record { name = name_of x; annotation = t })

-- one modifier more, where it doesn't stand yet, else the other
abbrev pub modifier : {M B : Type 0} → SoftKeyword → (M → Bool) → (M → M) → Modified M → Parser Token (Modified M ⊎ B)
    → Parser Token (Modified M ⊎ B)
modifier w stands add m other =
    on_if (not (stands m.modifiers)) (is_soft_keyword w)
    (λ t. pure (inl (record { start = first_place m.start t; modifiers = add m.modifiers }))) other

abbrev pub function_turn : Modified FunctionModifiers
    → Parser Token (Modified FunctionModifiers ⊎ (Pos × FunctionModifiers))
function_turn m = modifier soft.Override (λ f. f.is_override) (λ f. record f { is_override = true }) m
    (modifier soft.Open (λ f. f.is_open) (λ f. record f { is_open = true }) m
    (modifier soft.Abstract (λ f. f.is_abstract) (λ f. record f { is_abstract = true }) m
    (modifier soft.Suspend (λ f. f.is_suspend) (λ f. record f { is_suspend = true }) m
    (token (is_keyword word.Fun) >>= (λ t. pure (inr (start_of m.start t, m.modifiers)))))))

abbrev pub fun_word : Parser Token (Pos × FunctionModifiers)
fun_word = repeat function_turn
    (record {
      start = None;
      modifiers = record { is_override = false; is_open = false; is_abstract = false; is_suspend = false };
    })

abbrev pub typed_body : Bool → Parser Token FunctionBodyTree → Parser Token FunctionBodyTree
typed_body typed other =
    on_if typed (is_sign sign.Assign) (λ _. lines >> (top.disjunction outside >>= (λ a. pure (d.result a)))) other

abbrev pub function_body : Bool → Parser Token FunctionBodyTree
function_body typed = typed_body typed (lines >> (block_of (top.statement outside) >>= (λ b. pure (d.braces b))))

abbrev pub body_if : Bool → Bool → Parser Token (Option FunctionBodyTree)
body_if true typed = function_body typed >>= (λ b. pure (Some b))
body_if false typed = pure None

abbrev pub generic_if : Bool → Parser Token (List TypeParameterTree)
generic_if true = type_parameters
generic_if false = pure []

abbrev pub function_parser : Scope → Parser Token FunctionTree
function_parser scope = do
  m ← fun_word
  ts ← generic_if (may_be_generic scope)
  x ← token is_identifier
  expect sign.OpenParenthesis
  ps ← maybe_commas (is_sign sign.CloseParenthesis) typed_parameter
  r ← maybe (is_sign sign.Colon) any_type
  b ← body_if (has_body scope m.1) (is_some r)
  pure (record {
    at = m.0;
    modifiers = m.1;
    type_parameters = ts;
    name = name_of x;
    parameters = ps;
    result = r;
    body = b;
  })

abbrev pub constructor_parameter : Parser Token ConstructorParameterTree
constructor_parameter = attempt (meant kind_of) (λ k. pure k.1) (pure parameter.Plain)
    >>= (λ k. typed_parameter >>= (λ p. pure (record { kind = k; name = p.name; annotation = p.annotation })))

abbrev pub constructor_parameters : Parser Token (List ConstructorParameterTree)
constructor_parameters =
    on (is_sign sign.OpenParenthesis) (λ _. maybe_commas (is_sign sign.CloseParenthesis) constructor_parameter)
    (pure [])

abbrev pub parent : Parser Token TypeTree
parent = named_type true (type_parser 199)

abbrev pub supertype : Parser Token SupertypeTree
supertype = parent >>= (λ t. on (is_sign sign.OpenParenthesis)
    (λ open_. maybe_commas (is_sign sign.CloseParenthesis) (top.disjunction outside)
    >>= (λ es. pure (Some (record { at = arguments_at open_ es; values = es })))) (pure None)
    >>= (λ as'. pure (record { parent = t; arguments = as' })))

abbrev pub supertypes : {A : Type 0} → Parser Token A → Parser Token (List A)
supertypes super = on (is_sign sign.Colon) (λ _. lines >> several_items (pure tt) super) (pure [])

abbrev pub members : {A : Type 0} → Parser Token A → Parser Token (List A)
members item = attempt (lines >> expect sign.OpenBrace)
    (λ _. separated (is_sign sign.CloseBrace) item >>= (λ ms. pure ms.0)) (pure [])

abbrev pub property_rest : Token × Bool → Parser Token PropertyTree
property_rest var = do
  p ← typed_parameter
  expect sign.Assign
  lines
  a ← top.disjunction outside
  pure (record { at = var.0.pos; is_variable = var.1; name = p.name; annotation = p.annotation; initializer = a })

abbrev pub member : Parser Token MemberTree
member = attempt (meant variable_of) (λ var. property_rest var >>= (λ p. pure (d.property p)))
    (function_parser in_class >>= (λ f. pure (d.method f)))

abbrev pub class_turn : Modified ClassModifiers → Parser Token (Modified ClassModifiers ⊎ (Pos × ClassModifiers))
class_turn m = modifier soft.Open (λ c. c.is_open) (λ c. record c { is_open = true }) m
    (modifier soft.Abstract (λ c. c.is_abstract) (λ c. record c { is_abstract = true }) m
    (modifier soft.Data (λ c. c.is_data) (λ c. record c { is_data = true }) m
    (token (is_keyword word.Class) >>= (λ t. pure (inr (start_of m.start t, m.modifiers))))))

abbrev pub class_word : Parser Token (Pos × ClassModifiers)
class_word = repeat class_turn
    (record { start = None; modifiers = record { is_open = false; is_abstract = false; is_data = false } })

-- behind 'class'
abbrev pub class_rest : Pos × ClassModifiers → Parser Token ClassTree
class_rest m = do
  x ← token is_identifier
  ts ← type_parameters
  ps ← constructor_parameters
  ss ← supertypes supertype
  ms ← members member
  pure (record {
    at = m.0;
    modifiers = m.1;
    name = name_of x;
    type_parameters = ts;
    parameters = ps;
    supertypes = ss;
    members = ms;
  })

abbrev pub interface_rest : Token → Parser Token InterfaceTree
interface_rest t = do
  x ← token is_identifier
  ts ← type_parameters
  ss ← supertypes parent
  fs ← members (function_parser in_interface)
  pure (record { at = t.pos; name = name_of x; type_parameters = ts; supertypes = ss; functions = fs })

abbrev pub enum_entry : Parser Token EnumEntry
enum_entry = token is_identifier >>= (λ t. pure (record { at = t.pos; name = name_of t }))

abbrev pub enum_rest : Token → Parser Token DeclarationTree
enum_rest t = do
  token (is_keyword word.Class)
  x ← token is_identifier
  lines
  expect sign.OpenBrace
  lines
  es ← several_items lines enum_entry
  lines
  expect sign.CloseBrace
  pure (d.enum (record { at = t.pos; name = name_of x; entries = es }))

abbrev pub text_turn : List TextPart → Parser Token (List TextPart ⊎ List TextPart)
text_turn ps = attempt (meant text_of) (λ t. pure (inl (ps ++ t.1 ∷ [])))
    (token is_close_quote >>= (λ _. pure (inr ps)))

abbrev pub constant_value : Parser Token ConstantValue
constant_value = on is_open_quote (λ _. repeat text_turn [] >>= (λ ps. pure (value.Text ps)))
    (on (is_sign sign.Minus) (λ _. pure true) (pure false)
    >>= (λ minus. meant literal_of >>= (λ l. pure (value.Literal minus l.1))))

abbrev pub constant_rest : Token → Parser Token ConstantTree
constant_rest t = do
  token (is_keyword word.Val)
  x ← token is_identifier
  a ← maybe (is_sign sign.Colon) any_type
  expect sign.Assign
  lines
  v ← constant_value
  pure (record { at = t.pos; name = name_of x; annotation = a; value = v })

-- a function and a class may begin with the same modifiers
abbrev pub declaration_parser : Parser Token DeclarationTree
declaration_parser =
    on (is_keyword word.Interface) (λ t. interface_rest t >>= (λ i. pure (d.interface i)))
    (on (is_soft_keyword soft.Enum) enum_rest
    (on (is_soft_keyword soft.Const) (λ t. constant_rest t >>= (λ c. pure (d.constant c)))
    (attempt class_word (λ m. class_rest m >>= (λ c. pure (d.class c)))
    (function_parser at_top >>= (λ f. pure (d.function f))))))

unfoldable pub file_parser : Parser Token (List DeclarationTree)
file_parser = separated is_end declaration_parser >>= (λ ds. pure ds.0)

-- the index of the refused token, where the tokens are refused
abbrev pub refused_index : {A : Type 0} → List Token → Outcome Token A → Option ℕ
refused_index ts (Ok x) = None
refused_index ts (Err k) = Some (length ts - length k)

abbrev pub refused_in : List Token → Option ℕ
refused_in ts = refused_index ts (file_parser (cursor ts ts))
