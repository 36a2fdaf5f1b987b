-- A file of the grammar has at most 200 levels.
use Rattle.std.proofs.Common.{
  ◌≡◌,
  ℕ,
  suc,
  ◌+◌,
  ◌≤◌,
  Bool,
  true,
  false,
  List,
  [],
  ◌∷◌,
  Option,
  None,
  Some,
  max,
  refl,
  subst,
  arith,
  map,
}
use Rattle.kt_tree.specs.declared.tokens.Token.{Token}
use Rattle.kt_tree.specs.declared.bodies.Literal.{Literal}
use Rattle.kt_tree.specs.declared.bodies.TextPart.{TextPart}
use Rattle.kt_tree.specs.declared.declarations.ConstantValue.{ConstantValue}
use Rattle.kt_tree.specs.declared.declarations.ConstantValue.TheVariants as value
use Rattle.kt_tree.specs.Types.{TypeTree}
use Rattle.kt_tree.specs.Bodies.{ExpressionTree}
use Rattle.kt_tree.specs.Declarations.{
  TypeParameterTree,
  TypedParameterTree,
  FunctionBodyTree,
  FunctionTree,
  ConstructorParameterTree,
  SupertypeTree,
  PropertyTree,
  MemberTree,
  ClassTree,
  InterfaceTree,
  ConstantTree,
  DeclarationTree,
}
use Rattle.kt_tree.specs.Levels.{
  levels,
  type_levels,
  statement_levels,
  type_parameter_levels,
  typed_parameter_levels,
  function_body_levels,
  function_levels,
  constructor_parameter_levels,
  super_arguments_levels,
  supertype_levels,
  member_levels,
  class_levels,
  interface_levels,
  constant_value_levels,
  constant_levels,
  declaration_levels,
  file_levels,
}
use Rattle.kt_grammar.specs.Types.{IsType, IsNamedType}
use Rattle.kt_grammar.specs.Statements.{phrases}
use Rattle.kt_grammar.specs.Declarations.{
  Scope,
  at_top,
  in_class,
  in_interface,
  most_levels,
  top,
  outside,
  IsTypeArgument,
  IsTypeParameter,
  IsTypeParameters,
  IsTypedParameter,
  IsFunctionBody,
  IsFunction,
  IsConstructorParameter,
  IsConstructor,
  IsSupertype,
  IsSupertypes,
  IsMembers,
  IsProperty,
  IsMember,
  IsClass,
  IsInterface,
  IsEnum,
  IsConstantLiteral,
  IsConstantText,
  IsConstant,
  IsDeclaration,
  IsFile,
}
use Rattle.kt_grammar.proofs.levels.Holding.{
  Each,
  All,
  Perhaps,
  most_of,
  each_gives,
  each_either,
  each_if,
  each_past,
  each_seq,
  each_then,
  each_where,
  each_comma_list,
  each_maybe_comma_list,
  each_several,
  each_items,
  each_maybe,
  each_empty,
}
use Rattle.kt_grammar.proofs.levels.TypeLevels.{TypeFits, maybe_type_fits, named_fits, type_fits}
use Rattle.kt_grammar.proofs.levels.LevelsHeld.{block_holds, phrases_held, levels_are}

abbrev limit : ℕ
limit = most_levels

some_limit : 2 ≤ limit
unfolding most_levels
some_limit = omega arith

expression_fits : Each (top.disjunction outside) (λ a. levels a ≤ limit)
expression_fits = record { value = λ a u rest l. subst (λ n. levels a ≤ n) (levels_are limit) (((phrases_held limit).disjunction outside).value a u rest l) }

statement_fits : Each (top.statement outside) (λ a. statement_levels a ≤ limit)
statement_fits = record { value = λ a u rest l. subst (λ n. statement_levels a ≤ n) (levels_are limit) (((phrases_held limit).statement outside).value a u rest l) }

parent_fits : Each (IsNamedType IsTypeArgument) (TypeFits limit)
unfolding most_levels
parent_fits = named_fits 199 IsTypeArgument (type_fits 199)

-- ---- functions

abbrev ParameterFits : TypeParameterTree → Type 0
ParameterFits p = type_parameter_levels p ≤ limit

type_parameter_fits : Each IsTypeParameter ParameterFits
type_parameter_fits = each_then (λ x. each_seq (each_maybe (TypeFits limit) (type_fits limit)) (λ t h. each_gives (maybe_type_fits limit t h)))

type_parameters_fit : Each IsTypeParameters (All ParameterFits)
type_parameters_fit = each_where (each_then (λ _. each_comma_list ParameterFits type_parameter_fits)) (each_gives tt)

abbrev TypedFits : TypedParameterTree → Type 0
TypedFits p = typed_parameter_levels p ≤ limit

typed_parameter_fits : Each IsTypedParameter TypedFits
typed_parameter_fits = each_then (λ x. each_then (λ _. each_seq (type_fits limit) (λ t h. each_gives h)))

function_body_fits : (typed : Bool) → Each (IsFunctionBody typed) (λ b. function_body_levels (Some b) ≤ limit)
function_body_fits typed = each_either (each_seq (each_past (block_holds limit (top.statement outside) statement_fits)) (λ b h. each_gives h))
    (each_if typed (λ _. each_then (λ _. each_seq (each_past expression_fits) (λ a h. each_gives h))) (λ _. each_empty))

abbrev FunctionFits : FunctionTree → Type 0
FunctionFits f = function_levels f ≤ limit

function_fits : (scope : Scope) → Each (IsFunction scope) FunctionFits
function_fits scope = each_then (λ m. each_seq (each_if _ (λ _. type_parameters_fit) (λ _. each_gives tt)) (λ ts h. each_then (λ x. each_then (λ _. each_seq (each_maybe_comma_list TypedFits typed_parameter_fits) (λ ps k.
    each_seq (each_maybe (TypeFits limit) (type_fits limit)) (λ r j. each_seq (each_if _ (λ _. each_seq (function_body_fits _) (λ b i. each_gives {P = λ o. function_body_levels o ≤ limit} i)) (λ _. each_gives (omega arith))) (λ b i.
    each_gives (let types = most_of type_parameter_levels limit ts h in let typed = most_of typed_parameter_levels limit ps k in let result = maybe_type_fits limit r j in omega (arith, types, typed, result, i)))))))))

-- ---- classes and interfaces

abbrev PropertyFits : ConstructorParameterTree → Type 0
PropertyFits p = constructor_parameter_levels p ≤ limit

constructor_parameter_fits : Each IsConstructorParameter PropertyFits
constructor_parameter_fits = each_then (λ k. each_seq typed_parameter_fits (λ p h. each_gives h))

constructor_fits : Each IsConstructor (All PropertyFits)
constructor_fits = each_where (each_then (λ _. each_maybe_comma_list PropertyFits constructor_parameter_fits)) (each_gives tt)

abbrev SupertypeFits : SupertypeTree → Type 0
SupertypeFits s = supertype_levels s ≤ limit

supertype_fits : Each IsSupertype SupertypeFits
supertype_fits = each_seq parent_fits (λ t h. each_seq
    (each_where (each_then (λ o. each_seq (each_maybe_comma_list (λ a. levels a ≤ limit) expression_fits) (λ es all. each_gives {P = λ o. super_arguments_levels o ≤ limit} (most_of levels limit es all)))) (each_gives (omega arith)))
    (λ as' k. each_gives (omega (arith, h, k))))

supertypes_fit : {A : Type 0} (P : A → Type 0) (Super : A → List Token → List Token → Type 0) → Each Super P → Each (IsSupertypes Super) (All P)
supertypes_fit P Super h = each_where (each_then (λ _. each_past (each_several P h))) (each_gives tt)

members_fit : {A : Type 0} (P : A → Type 0) (Item : A → List Token → List Token → Type 0) → Each Item P → Each (IsMembers Item) (All P)
members_fit P Item h = each_where (each_then (λ _. each_seq (each_items P h) (λ ms all. each_gives all))) (each_gives tt)

property_fits : Each IsProperty (λ p. max (type_levels p.annotation) (levels p.initializer) ≤ limit)
property_fits = each_then (λ var. each_seq typed_parameter_fits (λ p h. each_then (λ _. each_seq (each_past expression_fits) (λ a k. each_gives (omega (arith, h, k))))))

abbrev MemberFits : MemberTree → Type 0
MemberFits m = member_levels m ≤ limit

member_fits : Each IsMember MemberFits
member_fits = each_either (each_seq (function_fits in_class) (λ f h. each_gives h)) (each_seq property_fits (λ p h. each_gives h))

class_fits : Each IsClass (λ c. class_levels c ≤ limit)
class_fits = each_then (λ m. each_then (λ x. each_seq type_parameters_fit (λ ts h. each_seq constructor_fits (λ ps k. each_seq (supertypes_fit SupertypeFits IsSupertype supertype_fits) (λ ss j. each_seq (members_fit MemberFits IsMember member_fits) (λ ms i.
    each_gives (let types = most_of type_parameter_levels limit ts h in let parameters = most_of constructor_parameter_levels limit ps k in let supertypes = most_of supertype_levels limit ss j in let members = most_of member_levels limit ms i in omega (arith, types, parameters, supertypes, members))))))))

interface_fits : Each IsInterface (λ i. interface_levels i ≤ limit)
interface_fits = each_then (λ t. each_then (λ x. each_seq type_parameters_fit (λ ts h. each_seq (supertypes_fit (TypeFits limit) (IsNamedType IsTypeArgument) parent_fits) (λ ss j. each_seq (members_fit FunctionFits (IsFunction in_interface) (function_fits in_interface)) (λ fs i.
    each_gives (let types = most_of type_parameter_levels limit ts h in let supertypes = most_of type_levels limit ss j in let functions = most_of function_levels limit fs i in omega (arith, types, supertypes, functions)))))))

-- ---- constants

literal_small : (negative : Bool) (l : Literal) → constant_value_levels (value.Literal negative l) ≤ 2
literal_small true l = omega arith
literal_small false l = omega arith

text_small : (ps : List TextPart) → constant_value_levels (value.Text ps) ≤ 2
text_small [] = omega arith
text_small (p ∷ []) = omega arith
text_small (p ∷ q ∷ ps) = omega arith

constant_fits : Each IsConstant (λ c. constant_levels c ≤ limit)
constant_fits = each_then (λ t. each_then (λ _. each_then (λ x. each_seq (each_maybe (TypeFits limit) (type_fits limit)) (λ a h. each_then (λ _. each_seq
    (each_past (each_either {P = λ v. constant_value_levels v ≤ 2} (each_then (λ minus. each_then (λ l. each_gives (literal_small minus l.1)))) (each_then (λ _. each_then (λ ps. each_gives (text_small ps))))))
    (λ v k. each_gives (let j = maybe_type_fits limit a h in omega (arith, j, k, some_limit))))))))

-- ---- files

abbrev DeclarationFits : DeclarationTree → Type 0
DeclarationFits d = declaration_levels d ≤ limit

declaration_fits : Each IsDeclaration DeclarationFits
declaration_fits = each_either (each_seq (function_fits at_top) (λ f h. each_gives h))
    (each_either (each_seq class_fits (λ c h. each_gives h))
    (each_either (each_seq interface_fits (λ i h. each_gives h))
    (each_either (each_then (λ t. each_then (λ _. each_then (λ x. each_then (λ _. each_then (λ es. each_then (λ _. each_gives (omega arith))))))))
    (each_seq constant_fits (λ c h. each_gives h)))))

pub file_fits : Each IsFile (λ ds. file_levels ds ≤ limit)
file_fits = each_seq (each_items DeclarationFits declaration_fits) (λ ds h. each_gives (most_of declaration_levels limit ds.0 h))
