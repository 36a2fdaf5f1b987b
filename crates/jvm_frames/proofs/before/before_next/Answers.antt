use Rattle.std.proofs.Common.{List, None, Some, ap, sym, ◌∙◌}
use Rattle.jvm_class_types.specs.declared.frames.FrameType.{FrameType}
use Rattle.jvm_maps.specs.Frames.{before}
use Rattle.jvm_frames.proofs.FrameLoops.{last_behind, none_last}
use Rattle.jvm_frames.proofs.before.before_next.Goals as goal

pub returns-in-Some : goal.returns-in-Some
returns-in-Some c =
    ap (λ (ls : List FrameType). before (Some c.in-Some.frame.now.offset) ls) c.deref.ensures.value
    ∙ sym (last_behind (before None c.args.start.now) c.args.frames.now c.in-Some.frame.now c.in-Some.ensures.value)

pub returns-in-None : goal.returns-in-None
returns-in-None c = sym (none_last (before None c.args.start.now) c.args.frames.now c.in-None.ensures.value)
