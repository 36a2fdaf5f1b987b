-- The hierarchy of a file, row by row, before it is known which classes have a function from above.
use Rattle.std.specs.Prelude.{ℕ, Bool, true, false, List, [], ◌∷◌, ◌++◌, ◌+◌, Option, Some, None, length, map, codes}
use Rattle.std.specs.List.{filter_map}
use Rattle.kt_tree.specs.Types.{TypeTree}
use Rattle.kt_tree.specs.Declarations.{DeclarationTree, TypeParameterTree}
use Rattle.kt_types_tree.specs.declared.hierarchy.ClassKind.TheVariants as kind
use Rattle.kt_types_tree.specs.declared.types.TypeConstructor.{TypeConstructor}
use Rattle.kt_types_tree.specs.declared.types.TypeConstructor.TheVariants as constructor
use Rattle.kt_types_tree.specs.Types.{TypeForm, ShapeForm, TypeForms, typed, nothing, any, parameter, of}
use Rattle.kt_types_tree.specs.Hierarchy.{SuperForm, HeaderForm, HierarchyForm}
use Rattle.kt_typed.specs.declared.headers.DeclaredTypeParameter.{DeclaredTypeParameter}
use Rattle.kt_decls_types.specs.declared.scopes.NamedClass.{NamedClass}
use Rattle.kt_decls_types.specs.References.{resolved}
use Rattle.kt_types_builtins.specs.declared.throwables.BuiltInThrowable.{BuiltInThrowable}
use Rattle.kt_types_builtins.specs.Throwables.{throwable_super, throwables}
use Rattle.kt_decls_rules.specs.Tables.{type_parameters_of, numbered, bound_meant, supertypes_of, declares, kind_of, has_row, super_rows}

abbrev pub Classes : Type 0
Classes = List ℕ → Option NamedClass

-- what was found, and else what is found then
abbrev pub or_found : Option NamedClass → Option NamedClass → Option NamedClass
or_found (Some c) later = Some c
or_found None later = later

abbrev pub bound_in : Classes → List DeclaredTypeParameter → Option TypeTree → TypeForm
bound_in classes scope None = typed true any
bound_in classes scope (Some t) = bound_meant (resolved classes scope t)

abbrev pub bounds_in : Classes → List DeclaredTypeParameter → List TypeParameterTree → List TypeForm
bounds_in classes scope ps = map (λ p. bound_in classes scope p.bound) ps

-- the class that a type names
abbrev pub super_head : TypeConstructor → TypeForms → Option SuperForm
super_head constructor.Int ts = None
super_head constructor.Long ts = None
super_head constructor.Boolean ts = None
super_head constructor.Char ts = None
super_head constructor.String ts = None
super_head constructor.Unit ts = None
super_head constructor.IntArray ts = None
super_head constructor.Array ts = None
super_head constructor.Continuation ts = None
super_head (constructor.Class row) ts = Some (record { class = row; arguments = ts })
super_head (constructor.Function suspends) ts = None

abbrev pub super_shape : ShapeForm → Option SuperForm
super_shape nothing = None
super_shape any = None
super_shape (parameter row place) = None
super_shape (of c ts) = super_head c ts

abbrev pub super_of_type : Option TypeForm → Option SuperForm
super_of_type None = None
super_of_type (Some (typed n s)) = super_shape s

abbrev pub super_in : Classes → List DeclaredTypeParameter → TypeTree → Option SuperForm
super_in classes scope t = super_of_type (resolved classes scope t)

abbrev pub supers_in : Classes → List DeclaredTypeParameter → List TypeTree → List SuperForm
supers_in classes scope ts = filter_map (super_in classes scope) ts

-- The row of a class, with its own functions alone; `first` is the row of its first type parameter.
abbrev pub class_draft : Classes → ℕ → DeclarationTree → HeaderForm
class_draft classes first d =
    record {
      kind = kind_of d;
      parameters = length (type_parameters_of d);
      first_bound = first;
      supertypes = supers_in classes (numbered first (type_parameters_of d)) (supertypes_of d);
      has_to_string = declares (codes "toString") 0 d;
      has_equals = declares (codes "equals") 1 d;
    }

abbrev pub draft_if : Bool → HeaderForm → List HeaderForm
draft_if false h = []
draft_if true h = h ∷ []

-- the rows of declarations, of which the first type parameter stands in the row `first`
abbrev pub drafts_from : Classes → ℕ → List DeclarationTree → List HeaderForm
drafts_from classes first [] = []
drafts_from classes first (d ∷ ds) =
    draft_if (has_row d) (class_draft classes first d)
    ++ drafts_from classes (first + length (type_parameters_of d)) ds

abbrev pub bounds_from : Classes → ℕ → List DeclarationTree → List TypeForm
bounds_from classes first [] = []
bounds_from classes first (d ∷ ds) =
    bounds_in classes (numbered first (type_parameters_of d)) (type_parameters_of d)
    ++ bounds_from classes (first + length (type_parameters_of d)) ds

abbrev pub throwable_draft : BuiltInThrowable → HeaderForm
throwable_draft t =
    record {
      kind = kind.Class;
      parameters = 0;
      first_bound = 0;
      supertypes = super_rows (throwable_super t);
      has_to_string = false;
      has_equals = false;
    }

abbrev pub draft : Classes → List DeclarationTree → HierarchyForm
draft classes ds =
    record {
      classes = map throwable_draft throwables ++ drafts_from classes 0 ds;
      bounds = bounds_from classes 0 ds;
    }
