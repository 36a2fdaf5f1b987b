use Rattle.std.proofs.Common.{◌≡◌, map, take}
use Rattle.class_code.specs.Code.{frame_kind}
use Rattle.class_code.proofs.frames.kinds_of.Given as goal

abbrev pub invariant-loop-t : goal.invariant-loop-t
invariant-loop-t l = l.kinds.items ≡ map (frame_kind l.headers) (take l.t-index l.types)
