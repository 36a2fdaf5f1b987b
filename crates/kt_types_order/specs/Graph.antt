-- Which rows lead to which, and when none leads back to itself.
use Rattle.std.specs.Prelude.{ℕ, List, [], ◌∷◌, Option, Some, None, map, ◌≡◌, slice_get}
use Rattle.kt_types_tree.specs.Types.{TypeForm, typed, nothing, any, parameter, of}
use Rattle.kt_types_tree.specs.Hierarchy.{HeaderForm, HierarchyForm}

-- for each row the rows to which it leads
abbrev pub Graph : Type 0
Graph = List (List ℕ)

abbrev pub row_or_none : Option (List ℕ) → List ℕ
row_or_none None = []
row_or_none (Some row) = row

abbrev pub Leads : Graph → ℕ → ℕ → Type 0
Leads g c d = (i : ℕ) × (slice_get (row_or_none (slice_get g c)) i ≡ Some d)

-- by one step or more
pub data Reaches (g : Graph) : ℕ → ℕ → Type 0 where
  at_once : {c d : ℕ} → Leads g c d → Reaches g c d
  further : {c d e : ℕ} → Leads g c d → Reaches g d e → Reaches g c e

abbrev pub HasNoCycle : Graph → Type 0
HasNoCycle g = (c : ℕ) → Reaches g c c → ⊥

-- a class leads to its declared supertypes
abbrev pub super_rows : HeaderForm → List ℕ
super_rows c = map (λ s. s.class) c.supertypes

abbrev pub class_graph : HierarchyForm → Graph
class_graph h = map super_rows h.classes

-- a type parameter leads to the type parameter that is its bound, with or without `?`
abbrev pub bound_rows : TypeForm → List ℕ
bound_rows (typed n nothing) = []
bound_rows (typed n any) = []
bound_rows (typed n (parameter row place)) = row ∷ []
bound_rows (typed n (of c ts)) = []

abbrev pub bound_graph : HierarchyForm → Graph
bound_graph h = map bound_rows h.bounds

-- no class is above itself
abbrev pub ClassesEnd : HierarchyForm → Type 0
ClassesEnd h = HasNoCycle (class_graph h)

-- no bound leads back to itself
abbrev pub BoundsEnd : HierarchyForm → Type 0
BoundsEnd h = HasNoCycle (bound_graph h)
