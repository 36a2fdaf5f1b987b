-- Declarations and files as definitions match on them.
use Rattle.std.specs.Prelude.{ℕ, Bool, List, Option, Some, None, map}
use Rattle.kt_base.specs.declared.refusals.Pos.{Pos}
use Rattle.kt_tree.specs.declared.declarations.FileTree.{FileTree}
use Rattle.kt_tree.specs.declared.declarations.Declaration.{Declaration}
use Rattle.kt_tree.specs.declared.declarations.Declaration.TheVariants as d
use Rattle.kt_tree.specs.declared.declarations.FunctionDeclaration.{FunctionDeclaration}
use Rattle.kt_tree.specs.declared.declarations.FunctionModifiers.{FunctionModifiers}
use Rattle.kt_tree.specs.declared.declarations.TypeParameter.{TypeParameter}
use Rattle.kt_tree.specs.declared.declarations.Parameter.{Parameter}
use Rattle.kt_tree.specs.declared.declarations.FunctionBody.{FunctionBody}
use Rattle.kt_tree.specs.declared.declarations.FunctionBody.TheVariants as body
use Rattle.kt_tree.specs.declared.declarations.ClassDeclaration.{ClassDeclaration}
use Rattle.kt_tree.specs.declared.declarations.ClassModifiers.{ClassModifiers}
use Rattle.kt_tree.specs.declared.declarations.ConstructorParameter.{ConstructorParameter}
use Rattle.kt_tree.specs.declared.declarations.ConstructorParameterKind.{ConstructorParameterKind}
use Rattle.kt_tree.specs.declared.declarations.Supertype.{Supertype}
use Rattle.kt_tree.specs.declared.declarations.SuperArguments.{SuperArguments}
use Rattle.kt_tree.specs.declared.declarations.ClassMember.{ClassMember}
use Rattle.kt_tree.specs.declared.declarations.ClassMember.TheVariants as m
use Rattle.kt_tree.specs.declared.declarations.PropertyDeclaration.{PropertyDeclaration}
use Rattle.kt_tree.specs.declared.declarations.InterfaceDeclaration.{InterfaceDeclaration}
use Rattle.kt_tree.specs.declared.declarations.EnumDeclaration.{EnumDeclaration}
use Rattle.kt_tree.specs.declared.declarations.ConstantDeclaration.{ConstantDeclaration}
use Rattle.kt_tree.specs.declared.declarations.ConstantValue.{ConstantValue}
use Rattle.kt_tree.specs.Types.{TypeTree, type_tree, maybe_type}
use Rattle.kt_tree.specs.Bodies.{ExpressionTree, BlockTree, expression_tree, block_tree}

-- a type parameter
pub record TypeParameterTree : Type 0 where
  pub name : List ℕ
  pub bound : Option TypeTree

abbrev pub type_parameter_tree : TypeParameter → TypeParameterTree
type_parameter_tree p = record { name = p.name; bound = maybe_type p.bound }

-- a parameter with its type
pub record TypedParameterTree : Type 0 where
  pub name : List ℕ
  pub annotation : TypeTree

abbrev pub typed_parameter_tree : Parameter → TypedParameterTree
typed_parameter_tree p = record { name = p.name; annotation = type_tree p.annotation }

pub data FunctionBodyTree : Type 0 where
  braces : BlockTree → FunctionBodyTree
  result : ExpressionTree → FunctionBodyTree

abbrev pub function_body_tree : FunctionBody → FunctionBodyTree
function_body_tree (body.Braces b) = braces (block_tree b)
function_body_tree (body.Result e) = result (expression_tree e)

abbrev pub maybe_function_body : Option FunctionBody → Option FunctionBodyTree
maybe_function_body None = None
maybe_function_body (Some b) = Some (function_body_tree b)

pub record FunctionTree : Type 0 where
  pub at : Pos
  pub modifiers : FunctionModifiers
  pub type_parameters : List TypeParameterTree
  pub name : List ℕ
  pub parameters : List TypedParameterTree
  pub result : Option TypeTree
  pub body : Option FunctionBodyTree

abbrev pub function_tree : FunctionDeclaration → FunctionTree
function_tree f =
    record {
      at = f.at;
      modifiers = f.modifiers;
      type_parameters = map type_parameter_tree f.type_parameters;
      name = f.name;
      parameters = map typed_parameter_tree f.parameters;
      result = maybe_type f.result;
      body = maybe_function_body f.body;
    }

pub record ConstructorParameterTree : Type 0 where
  pub kind : ConstructorParameterKind
  pub name : List ℕ
  pub annotation : TypeTree

abbrev pub constructor_parameter_tree : ConstructorParameter → ConstructorParameterTree
constructor_parameter_tree p = record { kind = p.kind; name = p.name; annotation = type_tree p.annotation }

pub record SuperArgumentsTree : Type 0 where
  pub at : Pos
  pub values : List ExpressionTree

abbrev pub super_arguments_tree : SuperArguments → SuperArgumentsTree
super_arguments_tree a = record { at = a.at; values = map expression_tree a.values }

abbrev pub maybe_super_arguments : Option SuperArguments → Option SuperArgumentsTree
maybe_super_arguments None = None
maybe_super_arguments (Some a) = Some (super_arguments_tree a)

pub record SupertypeTree : Type 0 where
  pub parent : TypeTree
  pub arguments : Option SuperArgumentsTree

abbrev pub supertype_tree : Supertype → SupertypeTree
supertype_tree s = record { parent = type_tree s.parent; arguments = maybe_super_arguments s.arguments }

pub record PropertyTree : Type 0 where
  pub at : Pos
  pub is_variable : Bool
  pub name : List ℕ
  pub annotation : TypeTree
  pub initializer : ExpressionTree

abbrev pub property_tree : PropertyDeclaration → PropertyTree
property_tree p =
    record {
      at = p.at;
      is_variable = p.is_variable;
      name = p.name;
      annotation = type_tree p.annotation;
      initializer = expression_tree p.initializer;
    }

pub data MemberTree : Type 0 where
  method : FunctionTree → MemberTree
  property : PropertyTree → MemberTree

abbrev pub member_tree : ClassMember → MemberTree
member_tree (m.Method f) = method (function_tree f)
member_tree (m.Property p) = property (property_tree p)

pub record ClassTree : Type 0 where
  pub at : Pos
  pub modifiers : ClassModifiers
  pub name : List ℕ
  pub type_parameters : List TypeParameterTree
  pub parameters : List ConstructorParameterTree
  pub supertypes : List SupertypeTree
  pub members : List MemberTree

abbrev pub class_tree : ClassDeclaration → ClassTree
class_tree c =
    record {
      at = c.at;
      modifiers = c.modifiers;
      name = c.name;
      type_parameters = map type_parameter_tree c.type_parameters;
      parameters = map constructor_parameter_tree c.parameters;
      supertypes = map supertype_tree c.supertypes;
      members = map member_tree c.members;
    }

pub record InterfaceTree : Type 0 where
  pub at : Pos
  pub name : List ℕ
  pub type_parameters : List TypeParameterTree
  pub supertypes : List TypeTree
  pub functions : List FunctionTree

abbrev pub interface_tree : InterfaceDeclaration → InterfaceTree
interface_tree i =
    record {
      at = i.at;
      name = i.name;
      type_parameters = map type_parameter_tree i.type_parameters;
      supertypes = map type_tree i.supertypes;
      functions = map function_tree i.functions;
    }

pub record ConstantTree : Type 0 where
  pub at : Pos
  pub name : List ℕ
  pub annotation : Option TypeTree
  pub value : ConstantValue

abbrev pub constant_tree : ConstantDeclaration → ConstantTree
constant_tree c = record { at = c.at; name = c.name; annotation = maybe_type c.annotation; value = c.value }

-- an enum has no part that is a tree
pub data DeclarationTree : Type 0 where
  function : FunctionTree → DeclarationTree
  class : ClassTree → DeclarationTree
  interface : InterfaceTree → DeclarationTree
  enum : EnumDeclaration → DeclarationTree
  constant : ConstantTree → DeclarationTree

abbrev pub declaration_tree : Declaration → DeclarationTree
declaration_tree (d.Function f) = function (function_tree f)
declaration_tree (d.Class c) = class (class_tree c)
declaration_tree (d.Interface i) = interface (interface_tree i)
declaration_tree (d.Enum e) = enum e
declaration_tree (d.Constant c) = constant (constant_tree c)

-- a file is the list of its declarations
abbrev pub file_tree : FileTree → List DeclarationTree
file_tree f = map declaration_tree f.declarations
