use Rattle.std.proofs.Common.{refl}
use Rattle.jvm_class_types.specs.Seen.{frame_seen}
use Rattle.jvm_frames_judging.specs.Starts.{start_before}
use Rattle.jvm_frames_judging.proofs.Formed.{judged_none}
use Rattle.jvm_frames_judging.proofs.frames.first_frame.Goals as goal

pub returns-in-None : goal.returns-in-None
returns-in-None c =
    judged_none c.args.pool.now (start_before c.args.start) (frame_seen c.args.frame.now) c.args.tally
    (c.in-None.ensures.none refl)
