-- The functions and properties that a class has from above.
use Rattle.std.specs.Prelude.{ℕ, zero, suc, Bool, true, false, List, [], ◌∷◌, ◌++◌, ◌==◌, ◌&&◌, ◌||◌, Option, Some, None, option_map, length, map, find, codes, slice_get, if◌then◌else◌}
use Rattle.std.specs.List.{flat_map}
use Rattle.kt_tree.specs.Types.{TypeTree}
use Rattle.kt_tree.specs.Declarations.{DeclarationTree, function, class, interface, enum, constant, FunctionTree, ConstructorParameterTree, MemberTree, method, property, FunctionBodyTree}
use Rattle.kt_types_tree.specs.declared.types.TypeConstructor.TheVariants as constructor
use Rattle.kt_types_tree.specs.Types.{TypeForm, typed, any, of, forms_end, substituted}
use Rattle.kt_types_tree.specs.Hierarchy.{SuperForm}
use Rattle.kt_typed.specs.declared.headers.DeclaredTypeParameter.{DeclaredTypeParameter}
use Rattle.kt_decls_types.specs.References.{then_on}
use Rattle.kt_decls_rules.specs.Names.{Taken, a_value, is_name, taken_by_parameter}
use Rattle.kt_decls_rules.specs.Tables.{Placed, Row, rows, supers_at, scope_of, meant, is_function, hierarchy_of}
use Rattle.kt_decls_rules.specs.Erasure.{Descriptor, descriptor_of}

pub record Signature : Type 0 where
  pub parameters : List TypeForm
  pub result : TypeForm

abbrev pub unit_type : TypeForm
unit_type = typed false (of constructor.Unit forms_end)

abbrev pub result_meant : List DeclarationTree → List DeclaredTypeParameter → Option TypeTree → Option TypeForm
result_meant ds scope None = Some unit_type
result_meant ds scope (Some t) = meant ds scope t

-- the types of parameters, if all have a meaning
abbrev pub all_meant : List DeclarationTree → List DeclaredTypeParameter → List TypeTree → Option (List TypeForm)
all_meant ds scope [] = Some []
all_meant ds scope (t ∷ ts) = then_on (meant ds scope t) (λ u. then_on (all_meant ds scope ts) (λ us. Some (u ∷ us)))

-- the types in the header of a function, if all have a meaning
abbrev pub signature_of : List DeclarationTree → List DeclaredTypeParameter → FunctionTree → Option Signature
signature_of ds scope f =
    then_on (all_meant ds scope (map (λ p. p.annotation) f.parameters))
    (λ ts. then_on (result_meant ds scope f.result) (λ t. Some (record { parameters = ts; result = t })))

-- A function that a class has, as seen from there. Where a type of it has no meaning it has no signature.
pub record Member : Type 0 where
  pub is_open : Bool
  pub has_body : Bool
  pub is_suspend : Bool
  pub signature : Option Signature
  pub descriptor : Option Descriptor

abbrev pub seen_signature : SuperForm → Signature → Signature
seen_signature s g =
    record {
      parameters = map (substituted s.arguments) g.parameters;
      result = substituted s.arguments g.result;
    }

-- a member of a supertype, as seen from the class that declares that supertype
abbrev pub seen_from : SuperForm → Member → Member
seen_from s m = record m { signature = option_map (seen_signature s) m.signature }

abbrev pub string_type : TypeForm
string_type = typed false (of constructor.String forms_end)

abbrev pub boolean_type : TypeForm
boolean_type = typed false (of constructor.Boolean forms_end)

abbrev pub any_member : List TypeForm → TypeForm → Member
any_member ts t =
    record {
      is_open = true;
      has_body = true;
      is_suspend = false;
      signature = Some (record { parameters = ts; result = t });
      descriptor = Some (descriptor_of [] false ts t);
    }

-- `toString` and `equals`, which every class has
abbrev pub members_of_any : List ℕ → ℕ → List Member
members_of_any x n =
    if is_name x (codes "toString") && n == 0 then any_member [] string_type ∷ []
    else if is_name x (codes "equals") && n == 1 then any_member (typed true any ∷ []) boolean_type ∷ []
    else []

abbrev pub is_some_body : Option FunctionBodyTree → Bool
is_some_body None = false
is_some_body (Some b) = true

-- a function of an interface is open, and so is one that overrides
abbrev pub is_open_function : Bool → FunctionTree → Bool
is_open_function in_interface f =
    in_interface || f.modifiers.is_open || f.modifiers.is_abstract || f.modifiers.is_override

abbrev pub own_descriptor : List DeclarationTree → FunctionTree → Signature → Descriptor
own_descriptor ds f g = descriptor_of (hierarchy_of ds).bounds f.modifiers.is_suspend g.parameters g.result

-- the descriptor of what is overridden first, and its own where nothing is
abbrev pub first_descriptor : List Member → Option Descriptor → Option Descriptor
first_descriptor [] own = own
first_descriptor (m ∷ ms) own = m.descriptor

abbrev pub member_of : List DeclarationTree → Placed → Bool → List Member → FunctionTree → Member
member_of ds p in_interface above f =
    record {
      is_open = is_open_function in_interface f;
      has_body = is_some_body f.body;
      is_suspend = f.modifiers.is_suspend;
      signature = signature_of ds (scope_of p.before p.declaration) f;
      descriptor =
          first_descriptor above
          (option_map (own_descriptor ds f) (signature_of ds (scope_of p.before p.declaration) f));
    }

abbrev pub method_of : MemberTree → List FunctionTree
method_of (method f) = f ∷ []
method_of (property p) = []

abbrev pub functions_of : DeclarationTree → List FunctionTree
functions_of (function f) = []
functions_of (class c) = flat_map method_of c.members
functions_of (interface i) = i.functions
functions_of (enum e) = []
functions_of (constant c) = []

abbrev pub is_interface : DeclarationTree → Bool
is_interface (interface i) = true
is_interface _ = false

abbrev pub declared_or : List DeclarationTree → Placed → List Member → List Member → Option FunctionTree → List Member
declared_or ds p above any_above None = above
declared_or ds p above any_above (Some f) = member_of ds p (is_interface p.declaration) any_above f ∷ []

-- the function of that name which a class declares, else those that it has from above
abbrev pub members_of_placed : List DeclarationTree → List ℕ → ℕ → List Member → Option Placed → List Member
members_of_placed ds x n above None = above
members_of_placed ds x n above (Some p) =
    declared_or ds p above (above ++ members_of_any x n) (find (is_function x n) (functions_of p.declaration))

abbrev pub members_at : List DeclarationTree → List ℕ → ℕ → List Member → Option Row → List Member
members_at ds x n above None = []
members_at ds x n above (Some r) = members_of_placed ds x n above r.declaration

-- the functions of that name and number of parameters that a class has from above, within so many steps, those of its
-- first supertype first
unfoldable pub inherited_within : List DeclarationTree → List Row → List ℕ → ℕ → ℕ → ℕ → List Member
inherited_within ds all x n zero row = []
inherited_within ds all x n (suc steps) row =
    flat_map
    (λ s.
    map (seen_from s) (members_at ds x n (inherited_within ds all x n steps s.class) (slice_get all s.class)))
    (supers_at all row)

abbrev pub inherited : List DeclarationTree → List ℕ → ℕ → ℕ → List Member
inherited ds x n row = inherited_within ds (rows ds) x n (length (rows ds)) row

abbrev pub value_name : Taken → List (List ℕ)
value_name (a_value x) = x ∷ []
value_name _ = []

abbrev pub property_name : MemberTree → List (List ℕ)
property_name (method f) = []
property_name (property p) = p.name ∷ []

-- the properties of a class's constructor
abbrev pub constructor_properties : List ConstructorParameterTree → List (List ℕ)
constructor_properties ps = flat_map value_name (flat_map taken_by_parameter ps)

abbrev pub properties_of : DeclarationTree → List (List ℕ)
properties_of (class c) = constructor_properties c.parameters ++ flat_map property_name c.members
properties_of _ = []

-- throwables have a message
abbrev pub properties_of_placed : Option Placed → List (List ℕ)
properties_of_placed None = codes "message" ∷ []
properties_of_placed (Some p) = properties_of p.declaration

abbrev pub properties_at : Option Row → List (List ℕ)
properties_at None = []
properties_at (Some r) = properties_of_placed r.declaration

-- the properties that a class has from above, within so many steps
unfoldable pub properties_within : List Row → ℕ → ℕ → List (List ℕ)
properties_within all zero row = []
properties_within all (suc steps) row =
    flat_map
    (λ s. properties_at (slice_get all s.class) ++ properties_within all steps s.class)
    (supers_at all row)

abbrev pub inherited_properties : List DeclarationTree → ℕ → List (List ℕ)
inherited_properties ds row = properties_within (rows ds) (length (rows ds)) row
