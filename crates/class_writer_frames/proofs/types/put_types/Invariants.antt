use Rattle.std.proofs.Common.{◌≡◌, ◌++◌, take}
use Rattle.std.specs.List.{flat_map}
use Rattle.jvm_pieces.specs.Pieces.{pieces}
use Rattle.jvm_maps.specs.Types as types
use Rattle.class_writer_frames.proofs.types.put_types.Given as goal

abbrev pub invariant-loop-frame_type : goal.invariant-loop-frame_type
invariant-loop-frame_type l =
    l.into.items ≡ l.fn.into.items
    ++ pieces l.pool (flat_map (types.frame_type l.pool).spell (take l.frame_type-index l.types))
