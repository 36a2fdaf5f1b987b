use Rattle.std.proofs.Common.{◌≡◌, ◌++◌, drop, map, None}
use Rattle.jvm_pieces.specs.Pieces.{pieces}
use Rattle.jvm_class_types.specs.Seen.{frame_seen}
use Rattle.jvm_maps.specs.Frames.{before, frames_spell, AreFrames}
use Rattle.class_writer_frames.proofs.frames.put_frames.Given as goal

abbrev pub invariant-loop-frame : goal.invariant-loop-frame
invariant-loop-frame l = record {
  so_far : l.into.items
      ++ pieces l.pool (frames_spell l.pool (before l.previous l.locals) (map frame_seen (drop l.frame-index l.frames)))
      ≡ l.fn.into.items ++ pieces l.pool (frames_spell l.pool (before None l.start) (map frame_seen l.frames));
  left : AreFrames l.pool (before l.previous l.locals) (map frame_seen (drop l.frame-index l.frames));
}
