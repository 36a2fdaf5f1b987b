use Rattle.std.proofs.Common.{◌≡◌, ◌≤◌, ◌++◌, drop, length}
use Rattle.class_verify_frames.proofs.operands.Operands.push_all.Given as goal

abbrev pub invariant-loop-left : goal.invariant-loop-left
invariant-loop-left l = record { so_far : l.self ≡ drop l.left l.kinds ++ l.fn.self; inside : l.left ≤ length l.kinds }

abbrev pub decreases-loop-left : goal.decreases-loop-left
decreases-loop-left l = l.left
