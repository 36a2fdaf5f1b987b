-- Subtyping, decided.
use Rattle.std.specs.Prelude.{ℕ, zero, suc, Bool, true, false, Option, Some, None, ◌||◌, ◌&&◌, ◌==◌, length, slice_get}
use Rattle.std.specs.List.{list_any}
use Rattle.kt_types_tree.specs.declared.types.TypeConstructor.{TypeConstructor}
use Rattle.kt_types_tree.specs.declared.types.TypeConstructor.TheVariants as c
use Rattle.kt_types_tree.specs.Types.{TypeForm, ShapeForm, TypeForms, typed, nothing, any, parameter, of, substituted_all}
use Rattle.kt_types_tree.specs.Hierarchy.{HierarchyForm, supers_of}
use Rattle.kt_types_order.specs.Graph.{class_graph}
use Rattle.kt_types_climbing.specs.Weights.{weight}
use Rattle.kt_flow.specs.Sameness.{same_constructor, same_types}

-- a class with arguments is another one, or has it above it, within so many steps
unfoldable pub climbs_in : HierarchyForm → ℕ → ℕ → TypeForms → ℕ → TypeForms → Bool
climbs_in h zero n all d others = false
climbs_in h (suc k) n all d others =
    (n == d && same_types all others)
    || list_any (λ s. climbs_in h k s.class (substituted_all all s.arguments) d others) (supers_of h n)

abbrev pub climbs : HierarchyForm → ℕ → TypeForms → ℕ → TypeForms → Bool
climbs h n all d others = climbs_in h (weight (class_graph h) n) n all d others

-- null is allowed above where it is allowed below
abbrev pub allows : Bool → Bool → Bool
allows true false = false
allows _ _ = true

abbrev pub is_any : ShapeForm → Bool
is_any any = true
is_any _ = false

abbrev pub is_same_parameter : ℕ → ℕ → ShapeForm → Bool
is_same_parameter row place (parameter other other_place) = row == other && place == other_place
is_same_parameter row place _ = false

-- `Any?`, or the type parameter itself
abbrev pub at_once : Bool → ℕ → ℕ → Bool → ShapeForm → Bool
at_once n row place m t = (m && is_any t) || (allows n m && is_same_parameter row place t)

abbrev pub constructed : HierarchyForm → TypeConstructor → TypeForms → TypeConstructor → TypeForms → Bool
constructed h (c.Class n) all (c.Class d) others = climbs h n all d others
constructed h d all e others = same_constructor d e && same_types all others

abbrev pub of_below : HierarchyForm → TypeConstructor → TypeForms → ShapeForm → Bool
of_below h d all nothing = false
of_below h d all any = true
of_below h d all (parameter row place) = false
of_below h d all (of e others) = constructed h d all e others

abbrev pub bound_then : Option TypeForm → (Bool → ShapeForm → Bool) → Bool
bound_then None go = false
bound_then (Some (typed n s)) go = go n s

-- with at most so many steps from a type parameter to its bound
unfoldable pub under_in : HierarchyForm → ℕ → Bool → ShapeForm → Bool → ShapeForm → Bool
under_in h k n nothing m t = allows n m
under_in h k n any m t = is_any t && allows n m
under_in h k n (of d all) m t = allows n m && of_below h d all t
under_in h zero n (parameter row place) m t = at_once n row place m t
under_in h (suc k) n (parameter row place) m t =
    at_once n row place m t || bound_then (slice_get h.bounds row) (λ j s. under_in h k (n || j) s m t)

-- whether the first type is a subtype of the second
unfoldable pub is_below : HierarchyForm → TypeForm → TypeForm → Bool
is_below h (typed n s) (typed m t) = under_in h (length h.bounds) n s m t
