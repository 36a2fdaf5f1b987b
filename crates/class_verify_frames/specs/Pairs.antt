-- One kind of each of two lists.
use Rattle.std.specs.Prelude.{◌≡◌, ℕ, Bool, true, false, List, Option, Some, if◌then◌else◌, ◌==◌, slice_get}
use Rattle.class_linked.specs.declared.kinds.Kind.{Kind}
use Rattle.class_linked.specs.declared.kinds.Kind.TheVariants.{Top, Int, Long, Null, Object, Fresh, FreshThis}

abbrev pub FitsAt : (Kind → Kind → Bool) → List Kind → List Kind → ℕ → Type 0
FitsAt fit ks ws i =
    (k : Kind) × (w : Kind) × (slice_get ks i ≡ Some k) × (slice_get ws i ≡ Some w) × (fit k w ≡ true)

-- a kind with another in place of one that isn't initialized
abbrev pub replaced : Kind → Kind → Kind → Kind
replaced (Fresh j) w (Fresh k) = if j == k then w else Fresh k
replaced FreshThis w FreshThis = w
replaced u w k = k
