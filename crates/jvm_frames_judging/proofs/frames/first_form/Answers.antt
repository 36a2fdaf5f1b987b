use Rattle.std.proofs.Common.{List, ap, ◌∙◌}
use Rattle.jvm_class_types.specs.declared.frames.FrameType.{FrameType}
use Rattle.jvm_maps.specs.Frames.{form_with}
use Rattle.jvm_frames_judging.specs.Starts.{start_types}
use Rattle.jvm_frames_judging.proofs.Formed.{more_fits, more_front, fewer_lack, lacking_is, other_full}
use Rattle.jvm_frames_judging.proofs.frames.first_form.Goals as goal

pub slice_bounds-form_of-count : goal.slice_bounds-form_of-count
slice_bounds-form_of-count c =
    more_fits (start_types c.args.start) c.args.locals.now c.in-More.count c.in-More.ensures

pub returns-in-More : goal.returns-in-More
returns-in-More c =
    c.form_of.ensures.seen
    ∙ ap (λ (ts : List FrameType). form_with ts c.args.delta c.args.locals.now c.args.stack.now)
    (more_front (start_types c.args.start) c.args.locals.now c.in-More.count c.in-More.ensures)

pub returns-in-Fewer : goal.returns-in-Fewer
returns-in-Fewer c =
    c.fewer.ensures
    ∙ lacking_is (start_types c.args.start) c.args.locals.now c.in-Fewer.count c.args.delta c.args.stack.now
    (fewer_lack (start_types c.args.start) c.args.locals.now c.in-Fewer.count c.in-Fewer.ensures)

pub returns-in-Other : goal.returns-in-Other
returns-in-Other c =
    other_full (start_types c.args.start) c.args.locals.now c.args.delta c.args.stack.now c.in-Other.ensures
