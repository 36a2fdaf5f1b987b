-- The headers of functions and the parts of headers, by the classes that have a name.
use Rattle.std.specs.Prelude.{ℕ, Bool, List, Option, Some, None, map}
use Rattle.kt_tree.specs.Types.{TypeTree}
use Rattle.kt_tree.specs.Declarations.{FunctionTree, TypedParameterTree}
use Rattle.kt_types_tree.specs.Types.{TypeForm}
use Rattle.kt_typed.specs.declared.headers.DeclaredTypeParameter.{DeclaredTypeParameter}
use Rattle.kt_typed.specs.declared.headers.Overridden.{Overridden}
use Rattle.kt_typed.specs.Headers.{FunctionForm, ParameterForm}
use Rattle.kt_decls_types.specs.References.{resolved}
use Rattle.kt_decls_table.specs.Classes.{Classes}
use Rattle.kt_decls_rules.specs.Tables.{bound_meant}
use Rattle.kt_decls_rules.specs.Members.{is_some_body, unit_type}

module _ (classes : Classes) (scope : List DeclaredTypeParameter) where
  -- what a written type means; where all headers of a file are well formed, each type in them has a meaning
  abbrev pub type_in : TypeTree → TypeForm
  type_in t = bound_meant (resolved classes scope t)

  -- a result is `Unit` where none is written
  abbrev pub result_in : Option TypeTree → TypeForm
  result_in None = unit_type
  result_in (Some t) = type_in t

  abbrev pub parameter_in : TypedParameterTree → ParameterForm
  parameter_in p = record { name = p.name; annotation = type_in p.annotation }

  -- a function with these type parameters of its own
  abbrev pub function_in : List DeclaredTypeParameter → Bool → Option Overridden → FunctionTree → FunctionForm
  function_in own is_open overrides f =
      record {
        at = f.at;
        name = f.name;
        type_parameters = own;
        parameters = map parameter_in f.parameters;
        result = result_in f.result;
        is_suspend = f.modifiers.is_suspend;
        is_open = is_open;
        has_body = is_some_body f.body;
        overrides = overrides;
      }
