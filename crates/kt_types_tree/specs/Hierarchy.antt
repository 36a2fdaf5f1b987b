-- Headers of classes as definitions match on them.
use Rattle.std.specs.Prelude.{ℕ, Bool, List, [], Option, Some, None, map, ◌≡◌, slice_get}
use Rattle.kt_types_tree.specs.declared.hierarchy.ClassKind.{ClassKind}
use Rattle.kt_types_tree.specs.declared.hierarchy.Supertype.{Supertype}
use Rattle.kt_types_tree.specs.declared.hierarchy.ClassHeader.{ClassHeader}
use Rattle.kt_types_tree.specs.declared.hierarchy.Hierarchy.{Hierarchy}
use Rattle.kt_types_tree.specs.Types.{TypeForm, TypeForms, forms_of, type_form}

-- a declared supertype
pub record SuperForm : Type 0 where
  pub class : ℕ
  pub arguments : TypeForms

abbrev pub super_form : Supertype → SuperForm
super_form s = record { class = s.class; arguments = forms_of (map type_form s.arguments) }

pub record HeaderForm : Type 0 where
  pub kind : ClassKind
  pub parameters : ℕ
  pub first_bound : ℕ
  pub supertypes : List SuperForm
  pub has_to_string : Bool
  pub has_equals : Bool

abbrev pub header_form : ClassHeader → HeaderForm
header_form c =
    record {
      kind = c.kind;
      parameters = c.parameters;
      first_bound = c.first_bound;
      supertypes = map super_form c.supertypes;
      has_to_string = c.has_to_string;
      has_equals = c.has_equals;
    }

-- all classes, and the bounds of all type parameters
pub record HierarchyForm : Type 0 where
  pub classes : List HeaderForm
  pub bounds : List TypeForm

abbrev pub hierarchy_form : Hierarchy → HierarchyForm
hierarchy_form h = record { classes = map header_form h.classes; bounds = map type_form h.bounds }

abbrev pub supers_or_none : Option HeaderForm → List SuperForm
supers_or_none None = []
supers_or_none (Some c) = c.supertypes

-- the declared supertypes of a class
abbrev pub supers_of : HierarchyForm → ℕ → List SuperForm
supers_of h c = supers_or_none (slice_get h.classes c)

-- one of them
abbrev pub HasSuper : HierarchyForm → ℕ → SuperForm → Type 0
HasSuper h c s = (i : ℕ) × (slice_get (supers_of h c) i ≡ Some s)
