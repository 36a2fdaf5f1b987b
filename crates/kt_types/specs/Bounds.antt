-- Subtyping with at most so many steps from a type parameter to its bound.
use Rattle.std.specs.Prelude.{ℕ, zero, suc, Bool, true, ◌||◌, Some, ◌≡◌, ◌⊎◌, slice_get}
use Rattle.kt_types_tree.specs.Types.{ShapeForm, typed, nothing, any, parameter, of}
use Rattle.kt_types_tree.specs.Hierarchy.{HierarchyForm}
use Rattle.kt_types_order.specs.Climbing.{Allows, IsUnder}

-- `Any?`, or the type parameter itself
abbrev pub IsAtOnce : Bool → ℕ → ℕ → Bool → ShapeForm → Type 0
IsAtOnce n row place m t = ((m ≡ true) × (t ≡ any)) ⊎ (Allows n m × (t ≡ parameter row place))

unfoldable pub IsUnderIn : HierarchyForm → ℕ → Bool → ShapeForm → Bool → ShapeForm → Type 0
IsUnderIn h k n nothing m t = IsUnder h n nothing m t
IsUnderIn h k n any m t = IsUnder h n any m t
IsUnderIn h k n (of c ts) m t = IsUnder h n (of c ts) m t
IsUnderIn h zero n (parameter row place) m t = IsAtOnce n row place m t
IsUnderIn h (suc k) n (parameter row place) m t =
    IsAtOnce n row place m t
    ⊎ ((j : Bool) × ((s : ShapeForm) × ((slice_get h.bounds row ≡ Some (typed j s)) × IsUnderIn h k (n || j) s m t)))
