use Rattle.std.proofs.Common.{◌≡◌, ◌-◌}
use Rattle.jvm_class_formats.specs.Formats.{times_at}
use Rattle.jvm_class_formats.specs.Reads.{in_front}
use Rattle.jvm_maps.specs.Types.{frame_type}
use Rattle.jvm_frames.proofs.types.frame_types.Given as goal

abbrev pub invariant-loop-turn : goal.invariant-loop-turn
invariant-loop-turn l =
    in_front l.types.items (times_at (frame_type l.pool) (l.count - l._turn) l.rest)
    ≡ times_at (frame_type l.pool) l.count l.initial.rest
