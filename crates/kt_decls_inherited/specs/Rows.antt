-- What is seen of the functions of the class in a row, by what is known of the file.
use Rattle.std.specs.Prelude.{ℕ, zero, suc, List, [], ◌∷◌, Option, Some, None, option_map, map, find, slice_get}
use Rattle.std.specs.List.{flat_map}
use Rattle.kt_tree.specs.Declarations.{DeclarationTree, FunctionTree}
use Rattle.kt_types_tree.specs.Hierarchy.{SuperForm, HeaderForm, HierarchyForm, supers_of}
use Rattle.kt_decls_types.specs.References.{then_on}
use Rattle.kt_decls_hierarchy.specs.Drafts.{Classes}
use Rattle.kt_decls_rules.specs.Tables.{Placed, Row, type_parameters_of, numbered, is_function}
use Rattle.kt_decls_rules.specs.Members.{functions_of, is_open_function, is_interface, is_some_body}
use Rattle.kt_decls_inherited.specs.Known.{signature_of}
use Rattle.kt_decls_inherited.specs.Sights.{SightForm, seen, own_sight}

abbrev pub own_in : Classes → ℕ → DeclarationTree → FunctionTree → SightForm
own_in classes first d f =
    record {
      is_open = is_open_function (is_interface d) f;
      has_body = is_some_body f.body;
      is_suspend = f.modifiers.is_suspend;
      signature = signature_of classes (numbered first (type_parameters_of d)) f;
    }

abbrev pub declared_in : Classes → ℕ → DeclarationTree → List ℕ → ℕ → Option SightForm
declared_in classes first d x n = option_map (own_in classes first d) (find (is_function x n) (functions_of d))

abbrev pub first_or_none : Option HeaderForm → ℕ
first_or_none None = 0
first_or_none (Some c) = c.first_bound

abbrev pub first_in : HierarchyForm → ℕ → ℕ
first_in h row = first_or_none (slice_get h.classes row)

abbrev pub declaration_in : List DeclarationTree → List ℕ → ℕ → Option DeclarationTree
declaration_in ds places row = then_on (slice_get places row) (slice_get ds)

abbrev pub sight_if : Classes → ℕ → List ℕ → ℕ → Option DeclarationTree → Option SightForm
sight_if classes first x n None = None
sight_if classes first x n (Some d) = declared_in classes first d x n

abbrev pub row_sight : Classes → HierarchyForm → List DeclarationTree → List ℕ → List ℕ → ℕ → ℕ → Option SightForm
row_sight classes h ds places x n row = sight_if classes (first_in h row) x n (declaration_in ds places row)

-- one that is declared, else those from above
abbrev pub one_or : Option SightForm → List SightForm → List SightForm
one_or None above = above
one_or (Some s) above = s ∷ []

module _ (classes : Classes) (h : HierarchyForm) (ds : List DeclarationTree) (places : List ℕ) (x : List ℕ) (n : ℕ) where
  -- within so many steps
  unfoldable pub sights_up : ℕ → ℕ → List SightForm
  sights_up zero row = []
  sights_up (suc steps) row =
      flat_map (λ s. map (seen s) (one_or (row_sight classes h ds places x n s.class) (sights_up steps s.class))) (supers_of h row)

  abbrev pub at_row : ℕ → ℕ → List SightForm
  at_row steps row = one_or (row_sight classes h ds places x n row) (sights_up steps row)

  abbrev pub all_up : ℕ → List SuperForm → List SightForm
  all_up steps ss = flat_map (λ s. map (seen s) (at_row steps s.class)) ss

-- what is seen of what a row of the file declares
abbrev pub placed_seen : List DeclarationTree → List ℕ → ℕ → Option Placed → Option SightForm
placed_seen ds x n None = None
placed_seen ds x n (Some p) = option_map (own_sight ds p) (find (is_function x n) (functions_of p.declaration))

abbrev pub row_seen : List DeclarationTree → List ℕ → ℕ → Option Row → Option SightForm
row_seen ds x n None = None
row_seen ds x n (Some r) = placed_seen ds x n r.declaration
