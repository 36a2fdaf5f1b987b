-- Which rows of a graph are marked, or lead to one that is.
use Rattle.std.specs.Prelude.{ℕ, zero, suc, Bool, false, List, [], ◌∷◌, ◌||◌, ◌+◌, length, map, slice_get}
use Rattle.std.specs.List.{list_any}
use Rattle.kt_types.specs.Kinds.{flag}
use Rattle.kt_types_order.specs.Graph.{Graph, row_or_none, class_graph}
use Rattle.kt_types_tree.specs.Hierarchy.{HeaderForm, HierarchyForm}

-- within so many steps, its own among them
unfoldable pub marked_within : Graph → List Bool → ℕ → ℕ → Bool
marked_within g own zero row = false
marked_within g own (suc steps) row =
    flag own row || list_any (marked_within g own steps) (row_or_none (slice_get g row))

abbrev pub marked : Graph → List Bool → ℕ → Bool
marked g own row = marked_within g own (length g) row

abbrev pub with_flags : Bool → Bool → HeaderForm → HeaderForm
with_flags to_string equals c = record c { has_to_string = to_string; has_equals = equals }

-- each class with what it has from above
abbrev pub completed_from : Graph → List Bool → List Bool → ℕ → List HeaderForm → List HeaderForm
completed_from g to_string equals row [] = []
completed_from g to_string equals row (c ∷ cs) =
    with_flags (marked g to_string row) (marked g equals row) c ∷ completed_from g to_string equals (row + 1) cs

abbrev pub to_string_flags : HierarchyForm → List Bool
to_string_flags h = map (λ c. c.has_to_string) h.classes

abbrev pub equals_flags : HierarchyForm → List Bool
equals_flags h = map (λ c. c.has_equals) h.classes

abbrev pub completed : HierarchyForm → HierarchyForm
completed h =
    record h { classes = completed_from (class_graph h) (to_string_flags h) (equals_flags h) 0 h.classes }
