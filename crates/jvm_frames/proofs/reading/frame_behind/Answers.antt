use Rattle.std.proofs.Common.{ap, ◌∙◌}
use Rattle.std.proofs.lemmas.Result.{err_from_is_err_and}
use Rattle.jvm_class_types.specs.declared.frames.Frame as rust_frame
use Rattle.jvm_class_types.specs.Seen.{frame_seen}
use Rattle.jvm_class_formats.specs.Formats.{Spot}
use Rattle.jvm_maps.specs.Frames.{before, behind_kind}
use Rattle.jvm_frames_forms.specs.KindsSeen.{kind_seen}
use Rattle.jvm_frames.specs.StepSeen.{placed, step_seen}
use Rattle.jvm_frames.proofs.FrameRead.{kind_read, judged_so, judged_refused}
use Rattle.jvm_frames.proofs.reading.frame_behind.Goals as goal

pub returns-in_err-frame : goal.returns-in_err-frame
returns-in_err-frame c =
    let k = kind_seen c.args.kind in
    let p = err_from_is_err_and c.from_residual-in_err-frame.result c.from_residual-in_err-frame.ensures.1 in
    rw (p.1, p.2) (judged_refused frame_seen (λ (x : rust_frame.Frame × Spot). (frame_seen x.0, x.1))
    c.in_err-frame.field-0.0 (before c.args.previous c.args.locals.now) c.args.at k
    ((behind_kind c.args.pool.now k).read c.args.place) (step_seen c.in_ok-step.step) c.in_ok-step.behind
    (λ x h. kind_read c.args.pool.now k c.args.place x h) c.in_ok-step.ensures c.in_err-frame.ensures)

pub returns : goal.returns
returns c =
    let k = kind_seen c.args.kind in
    judged_so (before c.args.previous c.args.locals.now) c.args.at k ((behind_kind c.args.pool.now k).read c.args.place)
    (step_seen c.in_ok-step.step) c.in_ok-step.behind (λ x h. kind_read c.args.pool.now k c.args.place x h)
    c.in_ok-step.ensures
    ∙ ap (placed c.in_ok-step.behind) c.in_ok-frame.ensures
