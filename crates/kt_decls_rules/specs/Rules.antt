-- When a header is well formed: one named fact for each rule.
use Rattle.std.specs.Prelude.{ℕ, Bool, true, false, List, [], ◌∷◌, ◌++◌, ◌+◌, ◌==◌, ◌&&◌, ◌≡◌, ◌⊎◌, Option, Some, None, length, map, codes, slice_get, nat_lt, if◌then◌else◌}
use Rattle.std.specs.List.{flat_map}
use Rattle.kt_tree.specs.Types.{TypeTree}
use Rattle.kt_tree.specs.Declarations.{DeclarationTree, function, class, interface, enum, constant, FunctionTree, ConstantTree, TypeParameterTree}
use Rattle.kt_types_tree.specs.declared.types.TypeConstructor.{TypeConstructor}
use Rattle.kt_types_tree.specs.declared.types.TypeConstructor.TheVariants as constructor
use Rattle.kt_types_tree.specs.Types.{TypeForm, ShapeForm, TypeForms, typed, nothing, any, parameter, of, forms_end, form_then, substituted}
use Rattle.kt_types_tree.specs.Hierarchy.{HeaderForm, HierarchyForm}
use Rattle.kt_types_order.specs.Below.{IsBelow}
use Rattle.kt_types_order.specs.Graph.{Reaches, class_graph, bound_graph, ClassesEnd, BoundsEnd}
use Rattle.kt_typed.specs.declared.headers.DeclaredTypeParameter.{DeclaredTypeParameter}
use Rattle.kt_decls_rules.specs.Names.{is_name, are_free, are_distinct, is_reserved, taken_by}
use Rattle.kt_decls_rules.specs.Tables.{scope_of, meant, hierarchy_of, row_count, type_parameters_of}
use Rattle.kt_decls_rules.specs.Members.{unit_type, result_meant}
use Rattle.kt_decls_rules.specs.Constants.{IsConstantOf}

-- No class is above itself, and no bound leads back to itself. Types are compared only where this holds.
abbrev pub Ends : HierarchyForm → Type 0
Ends h = ClassesEnd h × BoundsEnd h

-- a class is below a supertype, and stands nowhere above itself; what it has from above is asked only then
abbrev pub IsGrounded : HierarchyForm → ℕ → Type 0
IsGrounded h row = (d : ℕ) → (row ≡ d) ⊎ Reaches (class_graph h) row d → Reaches (class_graph h) d d → ⊥

-- Type arguments are below the bounds of their parameters.

abbrev pub bound_at : HierarchyForm → Option HeaderForm → ℕ → Option TypeForm
bound_at h None place = None
bound_at h (Some c) place = if nat_lt place c.parameters then slice_get h.bounds (c.first_bound + place) else None

abbrev pub IsBelowBound : HierarchyForm → TypeForms → TypeForm → Option TypeForm → Type 0
IsBelowBound h all t None = Unit {0}
IsBelowBound h all t (Some b) = Ends h → IsBelow h t (substituted all b)

abbrev pub AreBelowBounds : HierarchyForm → Option HeaderForm → TypeForms → ℕ → TypeForms → Type 0
AreBelowBounds h c all place forms_end = Unit {0}
AreBelowBounds h c all place (form_then t ts) =
    IsBelowBound h all t (bound_at h c place) × AreBelowBounds h c all (place + 1) ts

abbrev pub header_at : HierarchyForm → TypeConstructor → Option HeaderForm
header_at h (constructor.Class row) = slice_get h.classes row
header_at h _ = None

abbrev mutual
  pub IsWithinBounds : HierarchyForm → TypeForm → Type 0
  IsWithinBounds h (typed n s) = IsShapeWithinBounds h s

  pub IsShapeWithinBounds : HierarchyForm → ShapeForm → Type 0
  IsShapeWithinBounds h nothing = Unit {0}
  IsShapeWithinBounds h any = Unit {0}
  IsShapeWithinBounds h (parameter row place) = Unit {0}
  IsShapeWithinBounds h (of c ts) = AreBelowBounds h (header_at h c) ts 0 ts × AreWithinBounds h ts

  pub AreWithinBounds : HierarchyForm → TypeForms → Type 0
  AreWithinBounds h forms_end = Unit {0}
  AreWithinBounds h (form_then t ts) = IsWithinBounds h t × AreWithinBounds h ts

-- A written type has a meaning, and its arguments are within their bounds.
abbrev pub HasMeaning : HierarchyForm → Option TypeForm → Type 0
HasMeaning h None = ⊥
HasMeaning h (Some t) = IsWithinBounds h t

abbrev pub AreMeant : List DeclarationTree → List DeclaredTypeParameter → List TypeTree → Type 0
AreMeant ds scope [] = Unit {0}
AreMeant ds scope (t ∷ ts) = HasMeaning (hierarchy_of ds) (meant ds scope t) × AreMeant ds scope ts

abbrev pub written : Option TypeTree → List TypeTree
written None = []
written (Some t) = t ∷ []

abbrev pub types_of_function : FunctionTree → List TypeTree
types_of_function f = map (λ p. p.annotation) f.parameters ++ written f.result

abbrev pub bounds_written : DeclarationTree → List TypeTree
bounds_written d = flat_map (λ p. written p.bound) (type_parameters_of d)

-- the types in the header of a declaration, those of its members not among them
abbrev pub types_of_header : DeclarationTree → List TypeTree
types_of_header (function f) = types_of_function f
types_of_header (class c) = map (λ p. p.annotation) c.parameters ++ map (λ s. s.parent) c.supertypes
types_of_header (interface i) = i.supertypes
types_of_header (enum e) = []
types_of_header (constant c) = written c.annotation

abbrev pub DoBoundsEnd : HierarchyForm → ℕ → List TypeParameterTree → Type 0
DoBoundsEnd h row [] = Unit {0}
DoBoundsEnd h row (p ∷ ps) = (Reaches (bound_graph h) row row → ⊥) × DoBoundsEnd h (row + 1) ps

-- the names of the parameters, of which no two are the same
abbrev pub parameter_names : DeclarationTree → List (List ℕ)
parameter_names (function f) = map (λ p. p.name) f.parameters
parameter_names (class c) = map (λ p. p.name) c.parameters
parameter_names _ = []

abbrev pub top_name : DeclarationTree → List ℕ
top_name (function f) = f.name
top_name (class c) = c.name
top_name (interface i) = i.name
top_name (enum e) = e.name
top_name (constant c) = c.name

-- What every declaration at top level obeys.
pub record IsFineDeclaration (ds before : List DeclarationTree) (d : DeclarationTree) : Type 0 where
  pub not_reserved : is_reserved (top_name d) ≡ false
  pub free : are_free (flat_map taken_by before) (taken_by d) ≡ true
  pub distinct_type_parameters : are_distinct (map (λ p. p.name) (type_parameters_of d)) ≡ true
  pub distinct_parameters : are_distinct (parameter_names d) ≡ true
  pub bounds_meant : AreMeant ds (scope_of before d) (bounds_written d)
  pub types_meant : AreMeant ds (scope_of before d) (types_of_header d)
  pub bounds_end : DoBoundsEnd (hierarchy_of ds) (row_count before) (type_parameters_of d)

-- A function at top level overrides nothing and is never overridden; `main` without parameters has no type parameters
-- and the result `Unit`.
abbrev pub is_main : FunctionTree → Bool
is_main f = is_name f.name (codes "main") && length f.parameters == 0

pub record IsFineFunction (ds : List DeclarationTree) (scope : List DeclaredTypeParameter) (f : FunctionTree) :
    Type 0 where
  pub no_override : f.modifiers.is_override ≡ false
  pub not_open : f.modifiers.is_open ≡ false
  pub not_abstract : f.modifiers.is_abstract ≡ false
  pub main_alone : is_main f ≡ true → length f.type_parameters ≡ 0
  pub main_result : is_main f ≡ true → result_meant ds scope f.result ≡ Some unit_type

abbrev pub IsConstantMeant : Option TypeForm → ConstantTree → Type 0
IsConstantMeant None c = ⊥
IsConstantMeant (Some t) c = IsConstantOf (Some t) c.value

abbrev pub IsConstantWritten : List DeclarationTree → Option TypeTree → ConstantTree → Type 0
IsConstantWritten ds None c = IsConstantOf None c.value
IsConstantWritten ds (Some t) c = IsConstantMeant (meant ds [] t) c

-- A constant's literal is of a basic type, and of the written one.
abbrev pub IsFineConstant : List DeclarationTree → ConstantTree → Type 0
IsFineConstant ds c = IsConstantWritten ds c.annotation c
