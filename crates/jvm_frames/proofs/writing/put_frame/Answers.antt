use Rattle.std.proofs.Common.{ℕ, ◌^◌, ◌<◌, List, ap, sym, subst, ◌∙◌, arith}
use Rattle.jvm_pieces.specs.Pieces.{Piece, draft}
use Rattle.jvm_class_types.specs.declared.frames.FrameType.{FrameType}
use Rattle.jvm_class_types.specs.Seen.{frame_seen}
use Rattle.jvm_maps.specs.Frames.{before, delta_of, form_with}
use Rattle.jvm_frames.specs.Fitting.{form_pieces, FitsForm}
use Rattle.jvm_frames.specs.Putting.{Puts}
use Rattle.jvm_frames.proofs.Spelled.{delta_small, frame_fits, frame_spelled}
use Rattle.jvm_frames.proofs.writing.put_frame.Goals as goal

pub overflow_cast-delta : goal.overflow_cast-delta
overflow_cast-delta c =
    let small : delta_of c.args.previous c.args.frame.now.offset < 2 ^ 16 =
    delta_small c.requires.0 (before c.args.previous c.args.locals.now) (frame_seen c.args.frame.now) c.requires.1 in
    omega (arith, small)

pub put_form-requires-clause-fits : goal.put_form-requires-clause-fits
put_form-requires-clause-fits c =
    let b = before c.args.previous c.args.locals.now in
    let seen = c.form_of-form.ensures.seen
    ∙ ap (λ (d : ℕ). form_with c.args.locals.now d c.deref.result.now c.deref-2.result.now) c.delta_at-delta.ensures
    ∙ ap (λ (l : List FrameType). form_with c.args.locals.now (delta_of c.args.previous c.args.frame.now.offset) l
    c.deref-2.result.now) c.deref.ensures.value
    ∙ ap (λ (l : List FrameType). form_with c.args.locals.now (delta_of c.args.previous c.args.frame.now.offset)
    c.args.frame.now.locals.items l) c.deref-2.ensures.value in
    subst FitsForm (sym seen) (frame_fits c.requires.0 b (frame_seen c.args.frame.now) c.requires.1)

pub returns : goal.returns
returns c es =
    let b = before c.args.previous c.args.locals.now in
    let seen = c.form_of-form.ensures.seen
    ∙ ap (λ (d : ℕ). form_with c.args.locals.now d c.deref.result.now c.deref-2.result.now) c.delta_at-delta.ensures
    ∙ ap (λ (l : List FrameType). form_with c.args.locals.now (delta_of c.args.previous c.args.frame.now.offset) l
    c.deref-2.result.now) c.deref.ensures.value
    ∙ ap (λ (l : List FrameType). form_with c.args.locals.now (delta_of c.args.previous c.args.frame.now.offset)
    c.args.frame.now.locals.items l) c.deref-2.ensures.value in
    subst (λ (ps : List Piece). Puts (draft c.args.pool.now c.args.into.now.items)
    (draft c.put_form.new.pool c.put_form.new.into.items) ps c.put_form.result)
    (ap form_pieces seen ∙ sym (frame_spelled c.requires.0 es b
    (frame_seen c.args.frame.now) c.requires.1)) c.put_form.ensures
