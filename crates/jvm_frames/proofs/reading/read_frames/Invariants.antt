use Rattle.std.proofs.Common.{◌≡◌, Ok, None, map}
use Rattle.jvm_class_types.specs.Seen.{frame_seen}
use Rattle.jvm_maps.specs.Frames.{before, frames_at}
use Rattle.jvm_frames.proofs.reading.read_frames.Given as goal

abbrev pub invariant-loop-turn : goal.invariant-loop-turn
invariant-loop-turn l =
    frames_at l.pool (before None l.start) l._turn l.initial.rest ≡ Ok (map frame_seen l.frames.items, l.rest)
