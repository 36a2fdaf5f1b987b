use Rattle.std.proofs.Common.{◌≡◌, Ok, None, length, map}
use Rattle.jvm_class_types.specs.Seen.{frame_seen}
use Rattle.jvm_maps.specs.Frames.{before, frames_at}
use Rattle.jvm_frames.specs.Expanding.{at_all}
use Rattle.jvm_frames.proofs.expanding.expand.Given as goal

abbrev pub invariant-loop-rest : goal.invariant-loop-rest
invariant-loop-rest l =
    frames_at l.pool (before None l.first.locals.items) (length l.frames.items) (at_all l.pool l.fn.bytes)
    ≡ Ok (map frame_seen l.frames.items, l.rest)

abbrev pub decreases-loop-rest : goal.decreases-loop-rest
decreases-loop-rest l = length l.rest.bytes
