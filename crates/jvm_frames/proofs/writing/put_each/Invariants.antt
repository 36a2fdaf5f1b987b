use Rattle.std.proofs.Common.{◌≡◌, List, drop, map, None}
use Rattle.jvm_pool.specs.declared.entries.Entry.{Entry}
use Rattle.jvm_pieces.specs.Pieces.{draft, with_pieces}
use Rattle.jvm_class_types.specs.Seen.{frame_seen}
use Rattle.jvm_maps.specs.Frames.{before, frames_spell}
use Rattle.jvm_frames.specs.Putting.{Grew, HaveSpelling}
use Rattle.jvm_frames.proofs.writing.put_each.Given as goal

abbrev pub invariant-loop-frame : goal.invariant-loop-frame
invariant-loop-frame l = record {
  left : (es : List Entry) → with_pieces (frames_spell es (before l.previous l.locals) (map frame_seen
      (drop l.frame-index l.frames)))
      (draft l.pool l.into.items)
      ≡ with_pieces (frames_spell es (before None l.start) (map frame_seen l.frames))
      (draft l.initial.pool l.initial.into.items);
  grew : Grew (draft l.initial.pool l.initial.into.items) (draft l.pool l.into.items);
  spelled : HaveSpelling (before l.previous l.locals) (map frame_seen (drop l.frame-index l.frames));
}
