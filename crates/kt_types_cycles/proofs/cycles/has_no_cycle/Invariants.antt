use Rattle.std.proofs.Common.{◌<◌, ℕ}
use Rattle.kt_types_cycles.specs.Settled.{IsDone, IsSettled}
use Rattle.kt_types_cycles.proofs.cycles.has_no_cycle.Given as goal

abbrev pub invariant-loop-first : goal.invariant-loop-first
invariant-loop-first l = IsSettled l.graph l.done.items × ((c : ℕ) → c < l.first → IsDone l.done.items c)
