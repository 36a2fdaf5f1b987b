use Rattle.std.proofs.Common.{◌≡◌, drop, map}
use Rattle.jvm_class_types.specs.Seen.{frame_seen}
use Rattle.jvm_maps.specs.Frames.{after}
use Rattle.jvm_class_judging.specs.Judging.{judge_frames}
use Rattle.jvm_frames_judging.proofs.frames.next_frames.Given as goal

abbrev pub invariant-loop-frame : goal.invariant-loop-frame
invariant-loop-frame l =
    judge_frames l.pool (after (frame_seen l.previous)) (map frame_seen (drop l.frame-index l.frames)) l.tally
    ≡ judge_frames l.pool (after (frame_seen l.initial.previous)) (map frame_seen l.frames) l.initial.tally
