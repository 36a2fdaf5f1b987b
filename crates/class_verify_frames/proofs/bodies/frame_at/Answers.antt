use Rattle.std.proofs.Common.{◌≡◌, ap, ◌∙◌}
use Rattle.std.specs.Prelude.{slice_get}
use Rattle.class_linked.specs.declared.code.LinkedFrame.{LinkedFrame}
use Rattle.class_verify_frames.proofs.Offsets.{finds, finds_none}
use Rattle.class_verify_frames.proofs.bodies.frame_at.Goals as goal

pub returns-in-None : goal.returns-in-None
returns-in-None c = finds_none (λ (f : LinkedFrame). f.offset) c.args.method.now.code.now.frames c.args.method.now.frame_starts.now c.args.offset c.requires.frame_starts c.in-None.ensures

pub returns-in-Some : goal.returns-in-Some
returns-in-Some c =
    c.at.ensures ∙ ap (λ xs. slice_get xs c.in-Some.place) c.as_slice.ensures
    ∙ finds (λ (f : LinkedFrame). f.offset) c.args.method.now.code.now.frames c.args.method.now.frame_starts.now c.in-Some.place c.args.offset c.requires.frame_starts c.requires.in_order c.in-Some.ensures
