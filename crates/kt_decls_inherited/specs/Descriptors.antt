-- The descriptors of the functions that a class has from above, by what is seen of each declaration.
use Rattle.std.specs.Prelude.{ℕ, zero, suc, List, [], ◌∷◌, ◌++◌, Option, Some, None, option_map, map}
use Rattle.std.specs.List.{flat_map}
use Rattle.kt_tree.specs.Declarations.{DeclarationTree}
use Rattle.kt_types_tree.specs.Types.{TypeForm}
use Rattle.kt_types_tree.specs.Hierarchy.{SuperForm, HierarchyForm, supers_of}
use Rattle.kt_decls_hierarchy.specs.Drafts.{Classes}
use Rattle.kt_decls_rules.specs.Erasure.{Descriptor, descriptor_of}
use Rattle.kt_decls_rules.specs.Members.{Member, members_of_any}
use Rattle.kt_decls_inherited.specs.Sights.{SightForm}
use Rattle.kt_decls_inherited.specs.Rows.{row_sight}

abbrev pub descriptor_in : Member → Option Descriptor
descriptor_in m = m.descriptor

abbrev pub own_descriptor : List TypeForm → SightForm → Option Descriptor
own_descriptor bounds s =
    option_map (λ g. descriptor_of bounds s.is_suspend g.parameters g.result) s.signature

-- the descriptor of what is overridden first, and its own where nothing is
abbrev pub first_or : List (Option Descriptor) → Option Descriptor → Option Descriptor
first_or [] own = own
first_or (d ∷ ds) own = d

-- that of `toString` and of `equals`, which every class has
abbrev pub of_any : List ℕ → ℕ → List (Option Descriptor)
of_any x n = map descriptor_in (members_of_any x n)

-- a class that declares the function has that one alone, else those from above
abbrev pub one_or :
    List TypeForm → List (Option Descriptor) → Option SightForm → List (Option Descriptor) → List (Option Descriptor)
one_or bounds any None above = above
one_or bounds any (Some s) above = first_or (above ++ any) (own_descriptor bounds s) ∷ []

module _ (classes : Classes) (h : HierarchyForm) (ds : List DeclarationTree) (places : List ℕ) (x : List ℕ) (n : ℕ) where
  -- within so many steps
  unfoldable pub descriptors_up : ℕ → ℕ → List (Option Descriptor)
  descriptors_up zero row = []
  descriptors_up (suc steps) row =
      flat_map
      (λ s.
      one_or h.bounds (of_any x n) (row_sight classes h ds places x n s.class) (descriptors_up steps s.class))
      (supers_of h row)

  abbrev pub at_row : ℕ → ℕ → List (Option Descriptor)
  at_row steps row = one_or h.bounds (of_any x n) (row_sight classes h ds places x n row) (descriptors_up steps row)

  abbrev pub all_up : ℕ → List SuperForm → List (Option Descriptor)
  all_up steps ss = flat_map (λ s. at_row steps s.class) ss
