use Rattle.std.proofs.Common.{◌<◌, ℕ}
use Rattle.kt_types_order.specs.Graph.{Reaches}
use Rattle.kt_types_cycles.proofs.search.first_on_cycle.Given as goal

abbrev pub invariant-loop-row : goal.invariant-loop-row
invariant-loop-row l = (d : ℕ) → d < l.row → Reaches l.graph d d → ⊥
