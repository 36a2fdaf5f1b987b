-- The headers of a file as definitions match on them.
use Rattle.std.specs.Prelude.{ℕ, Bool, List, Option, map}
use Rattle.kt_base.specs.declared.refusals.Pos.{Pos}
use Rattle.kt_types_tree.specs.declared.hierarchy.ClassKind.{ClassKind}
use Rattle.kt_types_tree.specs.Types.{TypeForm, type_form}
use Rattle.kt_types_tree.specs.Hierarchy.{HierarchyForm, hierarchy_form}
use Rattle.kt_typed.specs.declared.headers.ClassParameter.{ClassParameter}
use Rattle.kt_typed.specs.declared.headers.ConstantLiteral.{ConstantLiteral}
use Rattle.kt_typed.specs.declared.headers.DeclarationNumber.{DeclarationNumber}
use Rattle.kt_typed.specs.declared.headers.DeclaredClass.{DeclaredClass}
use Rattle.kt_typed.specs.declared.headers.DeclaredConstant.{DeclaredConstant}
use Rattle.kt_typed.specs.declared.headers.DeclaredEntry.{DeclaredEntry}
use Rattle.kt_typed.specs.declared.headers.DeclaredFunction.{DeclaredFunction}
use Rattle.kt_typed.specs.declared.headers.DeclaredParameter.{DeclaredParameter}
use Rattle.kt_typed.specs.declared.headers.DeclaredProperty.{DeclaredProperty}
use Rattle.kt_typed.specs.declared.headers.DeclaredTypeParameter.{DeclaredTypeParameter}
use Rattle.kt_typed.specs.declared.headers.Headers.{Headers}
use Rattle.kt_typed.specs.declared.headers.MemberNumber.{MemberNumber}
use Rattle.kt_typed.specs.declared.headers.Overridden.{Overridden}

-- a parameter of a function, with its type
pub record ParameterForm : Type 0 where
  pub name : List ℕ
  pub annotation : TypeForm

abbrev pub parameter_form : DeclaredParameter → ParameterForm
parameter_form p = record { name = p.name; annotation = type_form p.annotation }

pub record FunctionForm : Type 0 where
  pub at : Pos
  pub name : List ℕ
  pub type_parameters : List DeclaredTypeParameter
  pub parameters : List ParameterForm
  pub result : TypeForm
  pub is_suspend : Bool
  pub is_open : Bool
  pub has_body : Bool
  pub overrides : Option Overridden

abbrev pub function_form : DeclaredFunction → FunctionForm
function_form f =
    record {
      at = f.at;
      name = f.name;
      type_parameters = f.type_parameters;
      parameters = map parameter_form f.parameters;
      result = type_form f.result;
      is_suspend = f.is_suspend;
      is_open = f.is_open;
      has_body = f.has_body;
      overrides = f.overrides;
    }

-- a parameter of a constructor, with the place of the property that it declares
pub record ClassParameterForm : Type 0 where
  pub name : List ℕ
  pub annotation : TypeForm
  pub property : Option ℕ

abbrev pub class_parameter_form : ClassParameter → ClassParameterForm
class_parameter_form p = record { name = p.name; annotation = type_form p.annotation; property = p.property }

pub record PropertyForm : Type 0 where
  pub at : Pos
  pub name : List ℕ
  pub is_variable : Bool
  pub annotation : TypeForm

abbrev pub property_form : DeclaredProperty → PropertyForm
property_form p =
    record { at = p.at; name = p.name; is_variable = p.is_variable; annotation = type_form p.annotation }

pub record ClassForm : Type 0 where
  pub at : Pos
  pub name : List ℕ
  pub kind : ClassKind
  pub is_open : Bool
  pub is_abstract : Bool
  pub type_parameters : List DeclaredTypeParameter
  pub parameters : List ClassParameterForm
  pub properties : List PropertyForm
  pub functions : List FunctionForm
  pub entries : List DeclaredEntry
  pub members : List MemberNumber
  pub superclass : Option ℕ

abbrev pub class_form : DeclaredClass → ClassForm
class_form c =
    record {
      at = c.at;
      name = c.name;
      kind = c.kind;
      is_open = c.is_open;
      is_abstract = c.is_abstract;
      type_parameters = c.type_parameters;
      parameters = map class_parameter_form c.parameters;
      properties = map property_form c.properties;
      functions = map function_form c.functions;
      entries = c.entries;
      members = c.members;
      superclass = c.superclass;
    }

pub record ConstantForm : Type 0 where
  pub at : Pos
  pub name : List ℕ
  pub annotation : TypeForm
  pub value : ConstantLiteral

abbrev pub constant_form : DeclaredConstant → ConstantForm
constant_form c = record { at = c.at; name = c.name; annotation = type_form c.annotation; value = c.value }

-- all headers of a file
pub record HeadersForm : Type 0 where
  pub hierarchy : HierarchyForm
  pub classes : List ClassForm
  pub functions : List FunctionForm
  pub constants : List ConstantForm
  pub order : List DeclarationNumber

abbrev pub headers_form : Headers → HeadersForm
headers_form h =
    record {
      hierarchy = hierarchy_form h.hierarchy;
      classes = map class_form h.classes;
      functions = map function_form h.functions;
      constants = map constant_form h.constants;
      order = h.order;
    }
