-- Rows that have no row at or above them that leads back to itself.
use Rattle.std.specs.Prelude.{ℕ, Bool, false, List, ◌≡◌, ◌⊎◌, Some, slice_get}
use Rattle.kt_types_cycles.specs.Settled.{IsOpenLink}
use Rattle.kt_types_order.specs.Graph.{Graph, Reaches, row_or_none}

abbrev pub IsGroundedIn : Graph → ℕ → Type 0
IsGroundedIn g row = (d : ℕ) → (row ≡ d) ⊎ Reaches g row d → Reaches g d d → ⊥

-- where it isn't marked, it leads at once to another that isn't
abbrev pub IsStuck : Graph → List Bool → ℕ → Type 0
IsStuck g done row =
    slice_get done row ≡ Some false → (d : ℕ) × IsOpenLink (row_or_none (slice_get g row)) done d
