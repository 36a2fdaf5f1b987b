use Rattle.std.proofs.Common.{◌≡◌, ◌++◌, take, drop, map}
use Rattle.class_verify_frames.specs.Pairs.{replaced}
use Rattle.class_verify_frames.proofs.operands.replace.Given as goal

abbrev pub invariant-loop-place : goal.invariant-loop-place
invariant-loop-place l = l.kinds.items ≡ map (replaced l.old l.new) (take l.place l.fn.kinds.items) ++ drop l.place l.fn.kinds.items
