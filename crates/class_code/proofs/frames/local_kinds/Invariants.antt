use Rattle.std.proofs.Common.{◌≡◌, take}
use Rattle.class_code.specs.Code.{local_kinds}
use Rattle.class_code.proofs.frames.local_kinds.Given as goal

abbrev pub invariant-loop-t : goal.invariant-loop-t
invariant-loop-t l = l.kinds ≡ local_kinds l.headers (take l.t-index l.types)
