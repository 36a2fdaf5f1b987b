-- The classes, the type parameters and the hierarchy of a file.
use Rattle.std.specs.Prelude.{ℕ, zero, suc, Bool, true, false, List, [], ◌∷◌, ◌++◌, ◌+◌, ◌==◌, ◌&&◌, ◌||◌, Option, Some, None, length, map, codes, slice_get, if◌then◌else◌}
use Rattle.std.specs.List.{flat_map, list_any, filter_map}
use Rattle.kt_tree.specs.Types.{TypeTree}
use Rattle.kt_tree.specs.Declarations.{DeclarationTree, function, class, interface, enum, constant, FunctionTree, TypeParameterTree, MemberTree, method, property}
use Rattle.kt_types_tree.specs.declared.hierarchy.ClassKind.{ClassKind}
use Rattle.kt_types_tree.specs.declared.hierarchy.ClassKind.TheVariants as kind
use Rattle.kt_types_tree.specs.declared.types.TypeConstructor.TheVariants as constructor
use Rattle.kt_types_tree.specs.Types.{TypeForm, typed, any, of, forms_end}
use Rattle.kt_types_tree.specs.Hierarchy.{SuperForm, HeaderForm, HierarchyForm}
use Rattle.kt_typed.specs.declared.headers.DeclaredTypeParameter.{DeclaredTypeParameter}
use Rattle.kt_decls_types.specs.declared.scopes.NamedClass.{NamedClass}
use Rattle.kt_decls_types.specs.References.{resolved}
use Rattle.kt_types_builtins.specs.declared.throwables.BuiltInThrowable.{BuiltInThrowable}
use Rattle.kt_types_builtins.specs.Throwables as builtin
use Rattle.kt_types_builtins.specs.Throwables.{throwable_name, throwable_super, throwables}
use Rattle.kt_decls_rules.specs.Names.{is_name}

-- The name of a class of the file, with its number of type parameters.
pub record ClassEntry : Type 0 where
  pub name : List ℕ
  pub parameters : ℕ

abbrev pub class_entry : DeclarationTree → List ClassEntry
class_entry (function f) = []
class_entry (class c) = record { name = c.name; parameters = length c.type_parameters } ∷ []
class_entry (interface i) = record { name = i.name; parameters = length i.type_parameters } ∷ []
class_entry (enum e) = record { name = e.name; parameters = 0 } ∷ []
class_entry (constant c) = []

-- the first of a name
abbrev pub class_from : ℕ → List ClassEntry → List ℕ → Option NamedClass
class_from row [] x = None
class_from row (c ∷ cs) x =
    if is_name c.name x then Some (record { row = row; parameters = c.parameters }) else class_from (row + 1) cs x

-- the rows of the file's classes stand behind those of the throwables
abbrev pub class_named : List DeclarationTree → List ℕ → Option NamedClass
class_named ds = class_from (length throwables) (flat_map class_entry ds)

abbrev pub type_parameters_of : DeclarationTree → List TypeParameterTree
type_parameters_of (function f) = f.type_parameters
type_parameters_of (class c) = c.type_parameters
type_parameters_of (interface i) = i.type_parameters
type_parameters_of (enum e) = []
type_parameters_of (constant c) = []

-- how many type parameters declarations have
abbrev pub row_count : List DeclarationTree → ℕ
row_count ds = length (flat_map type_parameters_of ds)

abbrev pub numbered : ℕ → List TypeParameterTree → List DeclaredTypeParameter
numbered row [] = []
numbered row (p ∷ ps) = record { name = p.name; row = row } ∷ numbered (row + 1) ps

-- the type parameters in scope in a declaration, behind the ones before it
abbrev pub scope_of : List DeclarationTree → DeclarationTree → List DeclaredTypeParameter
scope_of before d = numbered (row_count before) (type_parameters_of d)

-- what a type that is written in a declaration means
abbrev pub meant : List DeclarationTree → List DeclaredTypeParameter → TypeTree → Option TypeForm
meant ds scope = resolved (class_named ds) scope

-- a bound is `Any?` where none is written, and where what is written has no meaning
abbrev pub bound_meant : Option TypeForm → TypeForm
bound_meant None = typed true any
bound_meant (Some t) = t

abbrev pub bound_form : List DeclarationTree → List DeclaredTypeParameter → Option TypeTree → TypeForm
bound_form ds scope None = typed true any
bound_form ds scope (Some t) = bound_meant (meant ds scope t)

abbrev pub bounds_of : List DeclarationTree → List DeclarationTree → DeclarationTree → List TypeForm
bounds_of ds before d = map (λ p. bound_form ds (scope_of before d) p.bound) (type_parameters_of d)

-- the class that a supertype names, with its arguments; a supertype that is no class has no place in the hierarchy
abbrev pub super_meant : Option TypeForm → Option SuperForm
super_meant (Some (typed n (of (constructor.Class row) ts))) = Some (record { class = row; arguments = ts })
super_meant _ = None

abbrev pub supertypes_of : DeclarationTree → List TypeTree
supertypes_of (function f) = []
supertypes_of (class c) = map (λ s. s.parent) c.supertypes
supertypes_of (interface i) = i.supertypes
supertypes_of (enum e) = []
supertypes_of (constant c) = []

abbrev pub supers_meant : List DeclarationTree → List DeclarationTree → DeclarationTree → List SuperForm
supers_meant ds before d = filter_map (λ t. super_meant (meant ds (scope_of before d) t)) (supertypes_of d)

abbrev pub is_function : List ℕ → ℕ → FunctionTree → Bool
is_function x n f = is_name f.name x && length f.parameters == n

abbrev pub is_method : List ℕ → ℕ → MemberTree → Bool
is_method x n (method f) = is_function x n f
is_method x n (property p) = false

-- whether a declaration has a function of that name and number of parameters
abbrev pub declares : List ℕ → ℕ → DeclarationTree → Bool
declares x n (function f) = false
declares x n (class c) = list_any (is_method x n) c.members
declares x n (interface i) = list_any (is_function x n) i.functions
declares x n (enum e) = false
declares x n (constant c) = false

abbrev pub class_kind : Bool → ClassKind
class_kind true = kind.DataClass
class_kind false = kind.Class

abbrev pub kind_of : DeclarationTree → ClassKind
kind_of (function f) = kind.Class
kind_of (class c) = class_kind c.modifiers.is_data
kind_of (interface i) = kind.Interface
kind_of (enum e) = kind.Enum
kind_of (constant c) = kind.Class

-- a declaration, and those before it
pub record Placed : Type 0 where
  pub before : List DeclarationTree
  pub declaration : DeclarationTree

abbrev pub placed_from : List DeclarationTree → List DeclarationTree → List Placed
placed_from before [] = []
placed_from before (d ∷ ds) = record { before = before; declaration = d } ∷ placed_from (before ++ d ∷ []) ds

abbrev pub placed : List DeclarationTree → List Placed
placed = placed_from []

-- A row of the hierarchy: a declaration of the file, or none for a throwable, and its supertypes.
pub record Row : Type 0 where
  pub declaration : Option Placed
  pub supertypes : List SuperForm

abbrev pub super_row : BuiltInThrowable → SuperForm
super_row t = record { class = builtin.throwable_row t; arguments = forms_end }

abbrev pub super_rows : Option BuiltInThrowable → List SuperForm
super_rows None = []
super_rows (Some t) = super_row t ∷ []

abbrev pub throwable_row : BuiltInThrowable → Row
throwable_row t = record { declaration = None; supertypes = super_rows (throwable_super t) }

abbrev pub has_row : DeclarationTree → Bool
has_row (function f) = false
has_row (class c) = true
has_row (interface i) = true
has_row (enum e) = true
has_row (constant c) = false

abbrev pub class_row : List DeclarationTree → Placed → Row
class_row ds p = record { declaration = Some p; supertypes = supers_meant ds p.before p.declaration }

abbrev pub rows_of : List DeclarationTree → List Placed → List Row
rows_of ds [] = []
rows_of ds (p ∷ ps) = if has_row p.declaration then class_row ds p ∷ rows_of ds ps else rows_of ds ps

-- first the throwables, then the classes, interfaces and enums of the file in text order
abbrev pub rows : List DeclarationTree → List Row
rows ds = map throwable_row throwables ++ rows_of ds (placed ds)

abbrev pub supers_or_none : Option Row → List SuperForm
supers_or_none None = []
supers_or_none (Some r) = r.supertypes

abbrev pub supers_at : List Row → ℕ → List SuperForm
supers_at all row = supers_or_none (slice_get all row)

abbrev pub placed_declares : List ℕ → ℕ → Option Placed → Bool
placed_declares x n None = false
placed_declares x n (Some p) = declares x n p.declaration

abbrev pub row_declares : List ℕ → ℕ → Option Row → Bool
row_declares x n None = false
row_declares x n (Some r) = placed_declares x n r.declaration

-- whether a class declares the function, or one within so many steps above it does
unfoldable pub has_within : List Row → List ℕ → ℕ → ℕ → ℕ → Bool
has_within all x n zero row = false
has_within all x n (suc steps) row =
    row_declares x n (slice_get all row)
    || list_any (λ s. has_within all x n steps s.class) (supers_at all row)

abbrev pub has_function : List Row → List ℕ → ℕ → ℕ → Bool
has_function all x n row = has_within all x n (length all) row

abbrev pub kind_of_placed : Option Placed → ClassKind
kind_of_placed None = kind.Class
kind_of_placed (Some p) = kind_of p.declaration

abbrev pub parameters_of_placed : Option Placed → ℕ
parameters_of_placed None = 0
parameters_of_placed (Some p) = length (type_parameters_of p.declaration)

abbrev pub first_bound_of : Option Placed → ℕ
first_bound_of None = 0
first_bound_of (Some p) = row_count p.before

-- the header of a class as subtyping sees it
abbrev pub row_header : List Row → ℕ → Row → HeaderForm
row_header all row r =
    record {
      kind = kind_of_placed r.declaration;
      parameters = parameters_of_placed r.declaration;
      first_bound = first_bound_of r.declaration;
      supertypes = r.supertypes;
      has_to_string = has_function all (codes "toString") 0 row;
      has_equals = has_function all (codes "equals") 1 row;
    }

abbrev pub row_headers : List Row → ℕ → List Row → List HeaderForm
row_headers all row [] = []
row_headers all row (r ∷ rs) = row_header all row r ∷ row_headers all (row + 1) rs

abbrev pub bounds_of_placed : List DeclarationTree → Placed → List TypeForm
bounds_of_placed ds p = bounds_of ds p.before p.declaration

-- the hierarchy of a file
abbrev pub hierarchy_of : List DeclarationTree → HierarchyForm
hierarchy_of ds =
    record {
      classes = row_headers (rows ds) 0 (rows ds);
      bounds = flat_map (bounds_of_placed ds) (placed ds);
    }
