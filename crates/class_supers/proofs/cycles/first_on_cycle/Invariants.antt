use Rattle.std.proofs.Common.{◌<◌, ℕ}
use Rattle.class_supers.specs.Graph.{IsAboveItself}
use Rattle.class_supers.proofs.cycles.first_on_cycle.Given as goal

abbrev pub invariant-loop-row : goal.invariant-loop-row
invariant-loop-row l = (d : ℕ) → d < l.row → IsAboveItself l.graph d → ⊥
