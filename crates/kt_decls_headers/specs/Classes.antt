-- The headers of classes, interfaces, enums and throwables, by the classes that have a name.
use Rattle.std.specs.Prelude.{ℕ, Bool, true, false, List, [], ◌∷◌, ◌++◌, ◌+◌, ◌||◌, Option, Some, None, codes, map, if◌then◌else◌}
use Rattle.std.specs.List.{flat_map}
use Rattle.kt_base.specs.declared.refusals.Pos.{Pos}
use Rattle.kt_tree.specs.declared.declarations.ConstructorParameterKind.{ConstructorParameterKind}
use Rattle.kt_tree.specs.declared.declarations.ConstructorParameterKind.TheVariants.{Plain, Val, Var}
use Rattle.kt_tree.specs.declared.declarations.EnumDeclaration.{EnumDeclaration}
use Rattle.kt_tree.specs.declared.declarations.EnumEntry.{EnumEntry}
use Rattle.kt_tree.specs.Declarations.{DeclarationTree, ClassTree, ConstructorParameterTree, FunctionTree, InterfaceTree, MemberTree, method, property, SupertypeTree}
use Rattle.kt_types_tree.specs.declared.hierarchy.ClassKind.TheVariants as kind
use Rattle.kt_types_tree.specs.declared.types.TypeConstructor.TheVariants as constructor
use Rattle.kt_types_tree.specs.Types.{TypeForm, typed, of, forms_end}
use Rattle.kt_types_tree.specs.Hierarchy.{SuperForm, HierarchyForm}
use Rattle.kt_types_builtins.specs.declared.throwables.BuiltInThrowable.{BuiltInThrowable}
use Rattle.kt_types_builtins.specs.Throwables.{throwable_name, throwable_super}
use Rattle.kt_typed.specs.declared.headers.DeclaredEntry.{DeclaredEntry}
use Rattle.kt_typed.specs.declared.headers.DeclaredTypeParameter.{DeclaredTypeParameter}
use Rattle.kt_typed.specs.declared.headers.MemberNumber.{MemberNumber}
use Rattle.kt_typed.specs.declared.headers.MemberNumber.TheVariants as number
use Rattle.kt_typed.specs.Headers.{ClassForm, ClassParameterForm, FunctionForm, PropertyForm}
use Rattle.kt_decls_hierarchy.specs.Drafts.{super_in}
use Rattle.kt_decls_table.specs.Classes.{Classes}
use Rattle.kt_decls_rules.specs.Tables.{class_kind}
use Rattle.kt_decls_rules.specs.Members.{is_open_function, method_of}
use Rattle.kt_decls_rules.specs.ClassRules.{is_called}
use Rattle.kt_decls_headers.specs.Functions.{function_in, type_in}
use Rattle.kt_decls_headers.specs.Overridden.{overridden_by}

abbrev pub property_at : ConstructorParameterKind → ℕ → Option ℕ
property_at Plain k = None
property_at Val k = Some k
property_at Var k = Some k

-- how many properties stand before the next parameter
abbrev pub properties_behind : ConstructorParameterKind → ℕ → ℕ
properties_behind Plain k = k
properties_behind Val k = k + 1
properties_behind Var k = k + 1

abbrev pub is_variable : ConstructorParameterKind → Bool
is_variable Var = true
is_variable _ = false

abbrev pub entry_of : EnumEntry → DeclaredEntry
entry_of e = record { at = e.at; name = e.name }

-- the members of a body by their numbers, where there are so many functions and properties before
abbrev pub numbers_from : ℕ → ℕ → List MemberTree → List MemberNumber
numbers_from functions properties [] = []
numbers_from functions properties (method f ∷ ms) =
    number.Function functions ∷ numbers_from (functions + 1) properties ms
numbers_from functions properties (property p ∷ ms) =
    number.Property properties ∷ numbers_from functions (properties + 1) ms

abbrev pub property_count : ℕ → List ConstructorParameterTree → ℕ
property_count k [] = k
property_count k (p ∷ ps) = property_count (properties_behind p.kind k) ps

abbrev pub function_numbers : ℕ → List FunctionTree → List MemberNumber
function_numbers k [] = []
function_numbers k (f ∷ fs) = number.Function k ∷ function_numbers (k + 1) fs

abbrev pub super_row : Option SuperForm → Option ℕ
super_row None = None
super_row (Some s) = Some s.class

module _ (classes : Classes) (scope : List DeclaredTypeParameter) where
  abbrev pub class_parameter : ℕ → ConstructorParameterTree → ClassParameterForm
  class_parameter k p =
      record { name = p.name; annotation = type_in classes scope p.annotation; property = property_at p.kind k }

  -- the parameters of a constructor, where so many properties stand before
  abbrev pub class_parameters : ℕ → List ConstructorParameterTree → List ClassParameterForm
  class_parameters k [] = []
  class_parameters k (p ∷ ps) = class_parameter k p ∷ class_parameters (properties_behind p.kind k) ps

  -- the property that a parameter of a constructor declares, at the place of the class
  abbrev pub property_if : Option ℕ → PropertyForm → List PropertyForm
  property_if None p = []
  property_if (Some k) p = p ∷ []

  abbrev pub property_of : Pos → ConstructorParameterTree → PropertyForm
  property_of at p =
      record {
        at = at;
        name = p.name;
        is_variable = is_variable p.kind;
        annotation = type_in classes scope p.annotation;
      }

  abbrev pub parameter_property : Pos → ConstructorParameterTree → List PropertyForm
  parameter_property at p = property_if (property_at p.kind 0) (property_of at p)

  abbrev pub member_property : MemberTree → List PropertyForm
  member_property (method f) = []
  member_property (property p) =
      record {
        at = p.at;
        name = p.name;
        is_variable = p.is_variable;
        annotation = type_in classes scope p.annotation;
      }
      ∷ []

  -- the row of the class that the first supertype with parentheses names
  abbrev pub superclass_of : List SupertypeTree → Option ℕ
  superclass_of [] = None
  superclass_of (s ∷ ss) =
      if is_called s then super_row (super_in classes scope s.parent) else superclass_of ss

-- A file is known by its hierarchy, its declarations and their places.
module _ (classes : Classes) (h : HierarchyForm) (ds : List DeclarationTree) (places : List ℕ) where
  -- a function of the class in a row
  abbrev pub method_in : ℕ → List DeclaredTypeParameter → Bool → FunctionTree → FunctionForm
  method_in row scope in_interface f =
      function_in classes scope [] (is_open_function in_interface f) (overridden_by h ds places row f) f

  abbrev pub class_in : ℕ → List DeclaredTypeParameter → ClassTree → ClassForm
  class_in row scope c =
      record {
        at = c.at;
        name = c.name;
        kind = class_kind c.modifiers.is_data;
        is_open = c.modifiers.is_open || c.modifiers.is_abstract;
        is_abstract = c.modifiers.is_abstract;
        type_parameters = scope;
        parameters = class_parameters classes scope 0 c.parameters;
        properties =
            flat_map (parameter_property classes scope c.at) c.parameters
            ++ flat_map (member_property classes scope) c.members;
        functions = map (method_in row scope false) (flat_map method_of c.members);
        entries = [];
        members = numbers_from 0 (property_count 0 c.parameters) c.members;
        superclass = superclass_of classes scope c.supertypes;
      }

  abbrev pub interface_in : ℕ → List DeclaredTypeParameter → InterfaceTree → ClassForm
  interface_in row scope i =
      record {
        at = i.at;
        name = i.name;
        kind = kind.Interface;
        is_open = true;
        is_abstract = true;
        type_parameters = scope;
        parameters = [];
        properties = [];
        functions = map (method_in row scope true) i.functions;
        entries = [];
        members = function_numbers 0 i.functions;
        superclass = None;
      }

abbrev pub enum_in : EnumDeclaration → ClassForm
enum_in e =
    record {
      at = e.at;
      name = e.name;
      kind = kind.Enum;
      is_open = false;
      is_abstract = false;
      type_parameters = [];
      parameters = [];
      properties = [];
      functions = [];
      entries = map entry_of e.entries;
      members = [];
      superclass = None;
    }

-- `Throwable` has a message; those below it declare nothing
abbrev pub message_type : TypeForm
message_type = typed true (of constructor.String forms_end)

abbrev pub no_place : Pos
no_place = record { line = 0; column = 0 }

abbrev pub message : PropertyForm
message = record { at = no_place; name = codes "message"; is_variable = false; annotation = message_type }

abbrev pub message_unless : Option BuiltInThrowable → List PropertyForm
message_unless None = message ∷ []
message_unless (Some t) = []

abbrev pub throwable_in : BuiltInThrowable → ClassForm
throwable_in t =
    record {
      at = no_place;
      name = throwable_name t;
      kind = kind.Class;
      is_open = true;
      is_abstract = false;
      type_parameters = [];
      parameters = [];
      properties = message_unless (throwable_super t);
      functions = [];
      entries = [];
      members = [];
      superclass = None;
    }
