use Rattle.std.proofs.Common.{arith}
use Rattle.kt_types_tree.proofs.Parts.{yes}
use Rattle.kt_types_cycles.proofs.Settling.{all_done}
use Rattle.kt_types_cycles.proofs.cycles.has_no_cycle.Goals as goal

pub returns : goal.returns
returns c = yes (all_done c.args.graph.now c.loop-first.done.items c.loop-first.first c.loop-first.invariant.0 c.loop-first.invariant.1 (let t = c.loop-first-test.false in omega arith))
