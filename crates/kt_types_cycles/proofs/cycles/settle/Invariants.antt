use Rattle.std.proofs.Common.{◌+◌, ◌-◌, ◌*◌, length}
use Rattle.kt_types_cycles.specs.Settled.{open_count, IsSettling}
use Rattle.kt_types_cycles.proofs.cycles.settle.Given as goal

abbrev pub invariant-loop-next : goal.invariant-loop-next
invariant-loop-next l = IsSettling l.graph l.fn.done.items l.fn.first l.done.items l.waiting.items l.row

abbrev pub decreases-loop-next : goal.decreases-loop-next
decreases-loop-next l = open_count l.done.items * (length l.graph + 2) + (length l.graph + 1 - length l.waiting.items)
