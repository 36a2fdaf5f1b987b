-- The rules of declarations, in the parts in which they are decided.
use Rattle.std.specs.Prelude.{ℕ, Bool, false, true, List, ◌&&◌, ◌≡◌, Some, length, map, nat_le, not}
use Rattle.std.specs.List.{filter, list_all, list_any}
use Rattle.kt_tree.specs.Declarations.{DeclarationTree, function, class, interface, enum, constant, ClassTree, FunctionTree, InterfaceTree}
use Rattle.kt_typed.specs.declared.headers.DeclaredTypeParameter.{DeclaredTypeParameter}
use Rattle.kt_types_order.specs.Graph.{Reaches, class_graph}
use Rattle.kt_decls_rules.specs.Names.{are_distinct, is_name, is_reserved}
use Rattle.kt_decls_rules.specs.Tables.{hierarchy_of, type_parameters_of}
use Rattle.kt_decls_rules.specs.Members.{constructor_properties, functions_of, inherited_properties, is_some_body, result_meant, unit_type}
use Rattle.kt_decls_rules.specs.Rules.{AreMeant, IsFineConstant, IsFineFunction, IsGrounded, bounds_written, is_main, parameter_names, top_name, types_of_header}
use Rattle.kt_decls_rules.specs.ClassRules.{IsFineAbove, IsFineClass, IsFineData, IsFineInterface, is_called, may_extend, may_extend_interface}

-- what is told of any declaration by names alone
abbrev pub are_names_fine : DeclarationTree → Bool → Bool
are_names_fine d is_free =
    (not (is_reserved (top_name d)) && is_free)
    && (are_distinct (map (λ p. p.name) (type_parameters_of d)) && are_distinct (parameter_names d))

-- the types in the header of any declaration have a meaning
abbrev pub AreHeaderTypesMeant : List DeclarationTree → List DeclaredTypeParameter → DeclarationTree → Type 0
AreHeaderTypesMeant ds scope d = AreMeant ds scope (bounds_written d) × AreMeant ds scope (types_of_header d)

-- `main` without parameters has no type parameters and the result `Unit`
abbrev pub IsFineMain : List DeclarationTree → List DeclaredTypeParameter → FunctionTree → Type 0
IsFineMain ds scope f =
    (is_main f ≡ true → length f.type_parameters ≡ 0)
    × (is_main f ≡ true → result_meant ds scope f.result ≡ Some unit_type)

-- what a class may extend
pub record HasFineSupers
    (ds : List DeclarationTree) (row : ℕ) (scope : List DeclaredTypeParameter) (c : ClassTree) : Type 0 where
  pub supertypes : list_all (may_extend ds scope) c.supertypes ≡ true
  pub one_superclass : nat_le (length (filter is_called c.supertypes)) 1 ≡ true
  pub no_cycle : Reaches (class_graph (hierarchy_of ds)) row row → ⊥

-- what a class declares itself
pub record HasFineOwn
    (ds : List DeclarationTree) (row : ℕ) (scope : List DeclaredTypeParameter) (c : ClassTree) : Type 0 where
  pub own_bodies :
      c.modifiers.is_abstract ≡ false → list_all (λ f. is_some_body f.body) (functions_of (class c)) ≡ true
  pub is_data : c.modifiers.is_data ≡ true → IsFineData ds scope c
  pub new_properties :
      IsGrounded (hierarchy_of ds) row →
      list_any
      (λ x. list_any (is_name x) (inherited_properties ds row))
      (constructor_properties c.parameters)
      ≡ false

-- what an interface may extend
pub record HasInterfacesAbove
    (ds : List DeclarationTree) (row : ℕ) (scope : List DeclaredTypeParameter) (i : InterfaceTree) : Type 0 where
  pub supertypes : list_all (may_extend_interface ds scope) i.supertypes ≡ true
  pub no_cycle : Reaches (class_graph (hierarchy_of ds)) row row → ⊥

-- all that a class has from above breaks no rule of the class
abbrev pub IsFineFromAbove : List DeclarationTree → ℕ → Bool → Bool → DeclarationTree → Type 0
IsFineFromAbove ds row needs_bodies is_data d =
    IsGrounded (hierarchy_of ds) row → (x : List ℕ) (n : ℕ) → IsFineAbove ds row needs_bodies is_data d x n

-- what a kind of declaration obeys, in a row and with these type parameters
abbrev pub IsFineKindIn :
    List DeclarationTree → ℕ → List DeclaredTypeParameter → DeclarationTree → Type 0
IsFineKindIn ds row scope (function f) = IsFineFunction ds scope f
IsFineKindIn ds row scope (class c) = IsFineClass ds row scope c
IsFineKindIn ds row scope (interface i) = IsFineInterface ds row scope i
IsFineKindIn ds row scope (enum e) = Unit {0}
IsFineKindIn ds row scope (constant c) = IsFineConstant ds c
