-- When the headers of classes, interfaces, enums and their members are well formed: one named fact for each rule.
use Rattle.std.specs.Prelude.{ℕ, Bool, true, false, List, [], ◌∷◌, ◌++◌, ◌+◌, ◌&&◌, ◌||◌, ◌≡◌, Option, Some, None, length, map, slice_get, not, nat_le}
use Rattle.std.specs.List.{flat_map, list_any, list_all, filter}
use Rattle.kt_tree.specs.declared.declarations.ConstructorParameterKind.{ConstructorParameterKind}
use Rattle.kt_tree.specs.declared.declarations.ConstructorParameterKind.TheVariants.{Plain, Val, Var}
use Rattle.kt_tree.specs.declared.declarations.EnumEntry.{EnumEntry}
use Rattle.kt_tree.specs.Types.{TypeTree}
use Rattle.kt_tree.specs.Declarations.{DeclarationTree, class, interface, FunctionTree, ClassTree, InterfaceTree, ConstructorParameterTree, PropertyTree, SupertypeTree, SuperArgumentsTree}
use Rattle.kt_types_tree.specs.Types.{TypeForm}
use Rattle.kt_types_tree.specs.Hierarchy.{SuperForm, HierarchyForm}
use Rattle.kt_types_order.specs.Below.{IsBelow}
use Rattle.kt_types_order.specs.Graph.{Reaches, class_graph}
use Rattle.kt_typed.specs.declared.headers.DeclaredTypeParameter.{DeclaredTypeParameter}
use Rattle.kt_decls_rules.specs.Names.{Taken, is_name, are_free, are_distinct, taken_by_function}
use Rattle.kt_decls_rules.specs.Tables.{Placed, Row, rows, meant, hierarchy_of, super_meant, declares, class_entry}
use Rattle.kt_decls_rules.specs.Members.{Signature, Member, signature_of, members_of_any, inherited, inherited_properties, constructor_properties, functions_of, is_some_body, first_descriptor}
use Rattle.kt_decls_rules.specs.Erasure.{Descriptor}
use Rattle.kt_types_builtins.specs.Throwables.{throwables}
use Rattle.kt_types.specs.Kinds.{printable, equatable}
use Rattle.kt_decls_rules.specs.Rules.{Ends, IsGrounded, AreMeant, types_of_function}

-- the row of a declaration behind the ones before it
abbrev pub row_behind : List DeclarationTree → ℕ
row_behind before = length throwables + length (flat_map class_entry before)

-- Supertypes. A class is extended with parentheses, an interface without.

pub data SuperKind : Type 0 where
  open_class : SuperKind
  an_interface : SuperKind
  neither : SuperKind

abbrev pub if_open : Bool → SuperKind
if_open true = open_class
if_open false = neither

abbrev pub kind_of_declaration : DeclarationTree → SuperKind
kind_of_declaration (class c) = if_open (c.modifiers.is_open || c.modifiers.is_abstract)
kind_of_declaration (interface i) = an_interface
kind_of_declaration _ = neither

-- all throwables are open
abbrev pub kind_of_placed : Option Placed → SuperKind
kind_of_placed None = open_class
kind_of_placed (Some p) = kind_of_declaration p.declaration

abbrev pub kind_of_row : Option Row → SuperKind
kind_of_row None = neither
kind_of_row (Some r) = kind_of_placed r.declaration

abbrev pub kind_of_super : List DeclarationTree → Option SuperForm → SuperKind
kind_of_super ds None = neither
kind_of_super ds (Some s) = kind_of_row (slice_get (rows ds) s.class)

abbrev pub has_parentheses : Option SuperArgumentsTree → Bool
has_parentheses None = false
has_parentheses (Some a) = true

abbrev pub is_called : SupertypeTree → Bool
is_called s = has_parentheses s.arguments

abbrev pub may_stand : Bool → SuperKind → Bool
may_stand true open_class = true
may_stand false an_interface = true
may_stand _ _ = false

abbrev pub may_extend : List DeclarationTree → List DeclaredTypeParameter → SupertypeTree → Bool
may_extend ds scope s = may_stand (is_called s) (kind_of_super ds (super_meant (meant ds scope s.parent)))

abbrev pub may_extend_interface : List DeclarationTree → List DeclaredTypeParameter → TypeTree → Bool
may_extend_interface ds scope t = may_stand false (kind_of_super ds (super_meant (meant ds scope t)))

-- Members against what stands above. Where a type has no meaning its own header is blamed, and nothing is compared.

abbrev pub HaveSameParameters : Option Signature → Option Signature → Type 0
HaveSameParameters (Some a) (Some b) = a.parameters ≡ b.parameters
HaveSameParameters _ _ = Unit {0}

abbrev pub HasResultBelow : HierarchyForm → Option Signature → Option Signature → Type 0
HasResultBelow h (Some a) (Some b) = Ends h → IsBelow h a.result b.result
HasResultBelow h _ _ = Unit {0}

abbrev pub HaveSameDescriptor : Option Descriptor → Option Descriptor → Type 0
HaveSameDescriptor (Some a) (Some b) = a ≡ b
HaveSameDescriptor _ _ = Unit {0}

-- a function overrides one from above
pub record Overrides (h : HierarchyForm) (is_suspend : Bool) (g : Option Signature) (m : Member) : Type 0 where
  pub may : m.is_open ≡ true
  pub same_parameters : HaveSameParameters g m.signature
  pub result_below : HasResultBelow h g m.signature
  pub same_suspend : is_suspend ≡ m.is_suspend

abbrev pub OverridesAll : HierarchyForm → Bool → Option Signature → List Member → Type 0
OverridesAll h s g [] = Unit {0}
OverridesAll h s g (m ∷ ms) = Overrides h s g m × OverridesAll h s g ms

abbrev pub HaveDescriptor : Option Descriptor → List Member → Type 0
HaveDescriptor d [] = Unit {0}
HaveDescriptor d (m ∷ ms) = HaveSameDescriptor d m.descriptor × HaveDescriptor d ms

abbrev pub is_any_there : List Member → Bool
is_any_there [] = false
is_any_there (m ∷ ms) = true

-- all functions of that name and number of parameters that meet in a class from above
abbrev pub above : List DeclarationTree → ℕ → FunctionTree → List Member
above ds row f = inherited ds f.name (length f.parameters) row ++ members_of_any f.name (length f.parameters)

-- A function of a class. It is blamed for what its own header breaks.
pub record IsFineMethod
    (ds : List DeclarationTree) (row : ℕ) (scope : List DeclaredTypeParameter) (earlier : List Taken)
    (f : FunctionTree) :
    Type 0 where
  pub free : are_free earlier (taken_by_function f ∷ []) ≡ true
  pub distinct_parameters : are_distinct (map (λ p. p.name) f.parameters) ≡ true
  pub types_meant : AreMeant ds scope (types_of_function f)
  pub overrides_something : IsGrounded (hierarchy_of ds) row → f.modifiers.is_override ≡ is_any_there (above ds row f)
  pub overrides_each :
      IsGrounded (hierarchy_of ds) row →
      OverridesAll (hierarchy_of ds) f.modifiers.is_suspend (signature_of ds scope f) (above ds row f)
  pub one_descriptor :
      IsGrounded (hierarchy_of ds) row → HaveDescriptor (first_descriptor (above ds row f) None) (above ds row f)

-- A property of a class body.
pub record IsFineProperty
    (ds : List DeclarationTree) (row : ℕ) (scope : List DeclaredTypeParameter) (earlier : List Taken)
    (p : PropertyTree) :
    Type 0 where
  pub free : are_free earlier (Taken.a_value p.name ∷ []) ≡ true
  pub type_meant : AreMeant ds scope (p.annotation ∷ [])
  pub is_new : IsGrounded (hierarchy_of ds) row → list_any (is_name p.name) (inherited_properties ds row) ≡ false

-- What two functions that meet in a class from above agree in. Where one has a body, that serves for the other.
pub record Agree (h : HierarchyForm) (a b : Member) : Type 0 where
  pub same_parameters : HaveSameParameters a.signature b.signature
  pub same_suspend : a.is_suspend ≡ b.is_suspend
  pub same_descriptor : HaveSameDescriptor a.descriptor b.descriptor
  pub first_serves : a.has_body ≡ true → HasResultBelow h a.signature b.signature
  pub second_serves : b.has_body ≡ true → HasResultBelow h b.signature a.signature

abbrev pub AgreesWithAll : HierarchyForm → Member → List Member → Type 0
AgreesWithAll h a [] = Unit {0}
AgreesWithAll h a (b ∷ bs) = Agree h a b × AgreesWithAll h a bs

abbrev pub DoAllAgree : HierarchyForm → List Member → Type 0
DoAllAgree h [] = Unit {0}
DoAllAgree h (m ∷ ms) = AgreesWithAll h m ms × DoAllAgree h ms

-- a class that isn't abstract has a body for each function
abbrev pub has_body_if_any : List Member → Bool
has_body_if_any [] = true
has_body_if_any (m ∷ ms) = list_any (λ m. m.has_body) (m ∷ ms)

-- a data class has `toString` and `equals` also where it doesn't declare them
abbrev pub is_generated : Bool → List ℕ → ℕ → Bool
is_generated is_data x n = is_data && is_any_there (members_of_any x n)

pub record IsFineAbove
    (ds : List DeclarationTree) (row : ℕ) (needs_bodies is_data : Bool) (d : DeclarationTree) (x : List ℕ) (n : ℕ) :
    Type 0 where
  pub agree :
      (declares x n d || is_generated is_data x n) ≡ false → DoAllAgree (hierarchy_of ds) (inherited ds x n row)
  pub bodies :
      needs_bodies ≡ true →
      (declares x n d || is_generated is_data x n) ≡ false →
      has_body_if_any (inherited ds x n row) ≡ true

abbrev pub is_property : ConstructorParameterKind → Bool
is_property Plain = false
is_property Val = true
is_property Var = true

abbrev pub IsMeantText : HierarchyForm → Option TypeForm → Type 0
IsMeantText h None = Unit {0}
IsMeantText h (Some t) = (printable h t && equatable h t) ≡ true

abbrev pub HaveText : List DeclarationTree → List DeclaredTypeParameter → List ConstructorParameterTree → Type 0
HaveText ds scope [] = Unit {0}
HaveText ds scope (p ∷ ps) = IsMeantText (hierarchy_of ds) (meant ds scope p.annotation) × HaveText ds scope ps

-- A data class isn't open or abstract, and has at least one parameter, each a property of a type that is printable and
-- equatable.
pub record IsFineData (ds : List DeclarationTree) (scope : List DeclaredTypeParameter) (c : ClassTree) : Type 0 where
  pub is_final : (c.modifiers.is_open || c.modifiers.is_abstract) ≡ false
  pub not_empty : nat_le 1 (length c.parameters) ≡ true
  pub properties : list_all (λ p. is_property p.kind) c.parameters ≡ true
  pub texts : HaveText ds scope c.parameters

-- A class. It is blamed for what none of its members' headers breaks.
pub record IsFineClass
    (ds : List DeclarationTree) (row : ℕ) (scope : List DeclaredTypeParameter) (c : ClassTree) : Type 0 where
  pub supertypes : list_all (may_extend ds scope) c.supertypes ≡ true
  pub one_superclass : nat_le (length (filter is_called c.supertypes)) 1 ≡ true
  pub no_cycle : Reaches (class_graph (hierarchy_of ds)) row row → ⊥
  pub own_bodies :
      c.modifiers.is_abstract ≡ false → list_all (λ f. is_some_body f.body) (functions_of (class c)) ≡ true
  pub is_data : c.modifiers.is_data ≡ true → IsFineData ds scope c
  pub new_properties :
      IsGrounded (hierarchy_of ds) row →
      list_any
      (λ x. list_any (is_name x) (inherited_properties ds row))
      (constructor_properties c.parameters)
      ≡ false
  pub from_above :
      IsGrounded (hierarchy_of ds) row →
      (x : List ℕ) (n : ℕ) →
      IsFineAbove ds row (not c.modifiers.is_abstract) c.modifiers.is_data (class c) x n

-- An interface extends interfaces alone.
pub record IsFineInterface
    (ds : List DeclarationTree) (row : ℕ) (scope : List DeclaredTypeParameter) (i : InterfaceTree) : Type 0 where
  pub supertypes : list_all (may_extend_interface ds scope) i.supertypes ≡ true
  pub no_cycle : Reaches (class_graph (hierarchy_of ds)) row row → ⊥
  pub from_above :
      IsGrounded (hierarchy_of ds) row → (x : List ℕ) (n : ℕ) → IsFineAbove ds row false false (interface i) x n

-- the entries of an enum have names of their own
abbrev pub IsFineEntry : List EnumEntry → EnumEntry → Type 0
IsFineEntry earlier e = list_any (λ x. is_name e.name x.name) earlier ≡ false
