-- The headers of functions at top level.
use Rattle.std.specs.Prelude.{ℕ, Bool, true, false, List, [], ◌∷◌, ◌++◌, ◌==◌, ◌&&◌, Option, Some, None, length, map, codes, not, if◌then◌else◌}
use Rattle.std.specs.Cmp.Lexicographic.{pointwise}
use Rattle.kt_tree.specs.declared.declarations.FunctionModifiers.{FunctionModifiers}
use Rattle.kt_tree.specs.Types.{TypeTree}
use Rattle.kt_tree.specs.Declarations.{FunctionTree, TypedParameterTree}
use Rattle.kt_types_tree.specs.declared.types.TypeConstructor.TheVariants as constructor
use Rattle.kt_types_tree.specs.declared.types.TypeConstructor.{TypeConstructor}
use Rattle.kt_types_tree.specs.Types.{TypeForm, ShapeForm, TypeForms, typed, nothing, any, parameter, of, forms_end, form_then}
use Rattle.kt_typed.specs.Headers.{ParameterForm, FunctionForm}
use Rattle.kt_typed.specs.declared.headers.DeclaredTypeParameter.{DeclaredTypeParameter}
use Rattle.kt_decls_types.specs.References.{resolved, then_on}
use Rattle.kt_decls_rules.specs.Names.{Taken, taken_by_function, are_distinct, is_reserved}
use Rattle.kt_decls_rules.specs.Members.{unit_type, is_some_body}
use Rattle.kt_decls_table.specs.Classes.{Classes}
use Rattle.kt_decls_table.specs.Meanings.{all_meant}

-- a parameter with its type
abbrev pub parameter_meant : Classes → List DeclaredTypeParameter → TypedParameterTree → Option ParameterForm
parameter_meant classes scope p =
    then_on (resolved classes scope p.annotation) (λ t. Some (record { name = p.name; annotation = t }))

abbrev pub parameters_meant :
    Classes → List DeclaredTypeParameter → List TypedParameterTree → Option (List ParameterForm)
parameters_meant classes scope ps = all_meant (parameter_meant classes scope) ps

abbrev pub result_meant : Classes → List DeclaredTypeParameter → Option TypeTree → Option TypeForm
result_meant classes scope None = Some unit_type
result_meant classes scope (Some t) = resolved classes scope t

abbrev pub are_no_forms : TypeForms → Bool
are_no_forms forms_end = true
are_no_forms (form_then t ts) = false

abbrev pub is_unit_of : TypeConstructor → Bool → Bool
is_unit_of constructor.Unit alone = alone
is_unit_of _ alone = false

abbrev pub is_unit_shape : ShapeForm → Bool
is_unit_shape nothing = false
is_unit_shape any = false
is_unit_shape (parameter row place) = false
is_unit_shape (of c ts) = is_unit_of c (are_no_forms ts)

abbrev pub is_unit : TypeForm → Bool
is_unit (typed n s) = if n then false else is_unit_shape s

abbrev pub is_main : List ℕ → List TypedParameterTree → Bool
is_main x ps = pointwise ◌==◌ x (codes "main") && length ps == 0

abbrev pub are_plain : FunctionModifiers → Bool
are_plain m = not m.is_override && (not m.is_open && not m.is_abstract)

abbrev pub are_none : {A : Type 0} → List A → Bool
are_none [] = true
are_none (x ∷ xs) = false

-- `main` has no type parameters and the result `Unit`
abbrev pub fits_main : Bool → List DeclaredTypeParameter → TypeForm → Bool
fits_main main scope t = if main then are_none scope && is_unit t else true

-- what is told without the types
abbrev pub is_fine_name : List ℕ → Bool → Bool → FunctionModifiers → Bool
is_fine_name x is_free apart m = is_free && apart && not (is_reserved x) && are_plain m

abbrev pub form_of : List DeclaredTypeParameter → FunctionTree → List ParameterForm → TypeForm → FunctionForm
form_of scope f ps t =
    record {
      at = f.at;
      name = f.name;
      type_parameters = scope;
      parameters = ps;
      result = t;
      is_suspend = f.modifiers.is_suspend;
      is_open = false;
      has_body = is_some_body f.body;
      overrides = None;
    }

abbrev pub with_types : List DeclaredTypeParameter → FunctionTree → List ParameterForm → TypeForm → Option FunctionForm
with_types scope f ps t =
    if fits_main (is_main f.name f.parameters) scope t then Some (form_of scope f ps t) else None

-- with the type parameters in scope
abbrev pub function_header : Classes → List DeclaredTypeParameter → FunctionTree → Option FunctionForm
function_header classes scope f =
    then_on (parameters_meant classes scope f.parameters)
    (λ ps. then_on (result_meant classes scope f.result) (with_types scope f ps))

abbrev pub header_if : Classes → List DeclaredTypeParameter → FunctionTree → Bool → Option FunctionForm
header_if classes scope f fine = if fine then function_header classes scope f else None

-- the header of a function at top level with its type parameters in scope, beside what is taken
abbrev pub header_beside :
    Classes → (Taken → Bool) → List DeclaredTypeParameter → FunctionTree → Option FunctionForm
header_beside classes taken scope f =
    header_if classes scope f
    (is_fine_name f.name (not (taken (taken_by_function f))) (are_distinct (map (λ p. p.name) f.parameters))
    f.modifiers)
