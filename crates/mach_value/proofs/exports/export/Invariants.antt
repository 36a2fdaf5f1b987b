use Rattle.mach_value.specs.Exports.{held}
use Rattle.mach_value.specs.Exporting.{Stands, weight}
use Rattle.mach_value.proofs.exports.export.Given as goal

abbrev pub invariant-loop-next : goal.invariant-loop-next
invariant-loop-next l = Stands l.heap.objects (held l.fn.value) l.progress.nodes.items l.progress.pending l.progress.path

abbrev pub decreases-loop-next : goal.decreases-loop-next
decreases-loop-next l = weight l.heap.objects l.progress.pending
