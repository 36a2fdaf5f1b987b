use Rattle.std.proofs.Common.{◌≡◌, drop}
use Rattle.std.specs.List.{flat_map}
use Rattle.jvm_pieces.specs.Pieces.{draft, with_pieces}
use Rattle.jvm_frames.specs.Fitting.{type_pieces}
use Rattle.jvm_frames.specs.Putting.{Grew}
use Rattle.jvm_frames.proofs.writing.put_types.Given as goal

abbrev pub invariant-loop-frame_type : goal.invariant-loop-frame_type
invariant-loop-frame_type l = record {
  left : with_pieces (flat_map type_pieces (drop l.frame_type-index l.types)) (draft l.pool l.into.items)
      ≡ with_pieces (flat_map type_pieces l.types) (draft l.initial.pool l.initial.into.items);
  grew : Grew (draft l.initial.pool l.initial.into.items) (draft l.pool l.into.items);
}
