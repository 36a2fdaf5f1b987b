use Rattle.std.proofs.Common.{◌≡◌, ◌≤◌, ◌<◌, ◌+◌, Some, length, sym, ap, subst, ◌∙◌, arith}
use Rattle.std.specs.Prelude.{slice_get}
use Rattle.std.proofs.lemmas.Option.{slice_get-get_or, slice_get_within}
use Rattle.class_verify_frames.specs.Views.{body}
use Rattle.class_verify_methods.specs.Faults.{FramesAt, Least}
use Rattle.class_verify_methods.proofs.Least.{frames_more, least_same}
use Rattle.class_verify_methods.proofs.parts.first_bad_frame.Goals as goal

pub loop-given-preserved : goal.loop-given-preserved
loop-given-preserved c =
    let b = body c.args.method.now in
    subst (Least (FramesAt b (c.loop-given.given-index + 1))) (sym c.noted-least.ensures)
    (frames_more b c.loop-given.given-index c.given-item.result c.loop-given.least c.frame_stands-stands.result
    (ap (λ xs. slice_get xs c.loop-given.given-index) (sym c.as_slice-given-items.ensures) ∙ slice_get-get_or c.as_slice-given-items.result.now c.loop-given.given-index c.given-item.result c.loop-given-test.true ∙ ap Some (sym c.given-item.is))
    c.frame_stands-stands.ensures c.loop-given.invariant)

pub returns : goal.returns
returns c =
    let b = body c.args.method.now in
    least_same (FramesAt b c.loop-given.given-index) (FramesAt b (length c.args.method.now.code.now.frames)) c.loop-given.least
    (λ at h k lt x e. h k (omega (arith, lt, c.loop-given-test.false, ap length c.as_slice-given-items.ensures)) x e)
    (λ at h k lt x e. h k (slice_get_within c.args.method.now.code.now.frames k x e) x e) c.loop-given.invariant
