-- What a value is where it isn't null.
use Rattle.std.specs.Prelude.{false, ◌≡◌, ◌⊎◌}
use Rattle.kt_types_tree.specs.Types.{TypeForm, typed, any}
use Rattle.kt_types_tree.specs.Hierarchy.{HierarchyForm}
use Rattle.kt_types_order.specs.Below.{IsBelow}

-- without `?`
abbrev pub bare : TypeForm → TypeForm
bare (typed n s) = typed false s

-- without `?` a type can't be null where it is below `Any`; of a type parameter whose bound can be null `Any` is known
abbrev pub IsWithoutNull : HierarchyForm → TypeForm → TypeForm → Type 0
IsWithoutNull h t r =
    (IsBelow h (bare t) (typed false any) × (r ≡ bare t))
    ⊎ ((IsBelow h (bare t) (typed false any) → ⊥) × (r ≡ typed false any))
