use Rattle.jvm_class_types.specs.Seen.{frame_seen}
use Rattle.jvm_maps.specs.Frames.{before}
use Rattle.class_writer_frames.proofs.Spelled.{delta_fits}
use Rattle.class_writer_frames.proofs.frames.put_frame.Goals as goal

pub delta-delta-requires-clause-fits : goal.delta-delta-requires-clause-fits
delta-delta-requires-clause-fits c =
    delta_fits c.args.pool.now (before c.args.previous c.args.locals.now) (frame_seen c.args.frame.now) c.requires
