use Rattle.std.proofs.Common.{arith}
use Rattle.jvm_maps.specs.Types as maps
use Rattle.class_writer_members.proofs.Appends.{each_plain}
use Rattle.class_writer_frames.proofs.types.put_types.Goals as goal

pub loop-frame_type-preserved : goal.loop-frame_type-preserved
loop-frame_type-preserved c =
    each_plain c.args.pool.now (maps.frame_type c.args.pool.now).spell c.args.types.now
    c.loop-frame_type.frame_type-index c.frame_type-item.result c.args.into.now.items c.loop-frame_type.into.items
    c.put_type.new.into.items (omega arith) c.frame_type-item.is c.loop-frame_type.invariant c.in_ok-put_type.ensures
