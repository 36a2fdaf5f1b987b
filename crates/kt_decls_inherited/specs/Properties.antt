-- The properties that a class has from above, by where the declarations of rows stand.
use Rattle.std.specs.Prelude.{ℕ, zero, suc, List, [], ◌∷◌, ◌++◌, Option, Some, None, codes, slice_get}
use Rattle.std.specs.List.{flat_map}
use Rattle.kt_tree.specs.Declarations.{DeclarationTree}
use Rattle.kt_types_tree.specs.Hierarchy.{SuperForm, HierarchyForm, supers_of}
use Rattle.kt_decls_rules.specs.Members.{properties_of}

-- a throwable, whose place is behind all declarations, has a message
abbrev pub declared_or_message : Option DeclarationTree → List (List ℕ)
declared_or_message None = codes "message" ∷ []
declared_or_message (Some d) = properties_of d

abbrev pub at_place : List DeclarationTree → Option ℕ → List (List ℕ)
at_place ds None = []
at_place ds (Some place) = declared_or_message (slice_get ds place)

abbrev pub row_properties : List DeclarationTree → List ℕ → ℕ → List (List ℕ)
row_properties ds places row = at_place ds (slice_get places row)

module _ (h : HierarchyForm) (ds : List DeclarationTree) (places : List ℕ) where
  -- within so many steps
  unfoldable pub properties_up : ℕ → ℕ → List (List ℕ)
  properties_up zero row = []
  properties_up (suc steps) row =
      flat_map (λ s. row_properties ds places s.class ++ properties_up steps s.class) (supers_of h row)

  abbrev pub all_up : ℕ → List SuperForm → List (List ℕ)
  all_up steps ss = flat_map (λ s. row_properties ds places s.class ++ properties_up steps s.class) ss
