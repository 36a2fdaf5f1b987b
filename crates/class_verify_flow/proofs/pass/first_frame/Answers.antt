use Rattle.std.proofs.Common.{◌≡◌, Some, None, sym, ap, ◌∙◌}
use Rattle.std.specs.Prelude.{slice_get}
use Rattle.std.proofs.lemmas.Result.{IfOk-weaker}
use Rattle.class_verify_frames.specs.Views.{body}
use Rattle.class_verify_rules.specs.Frames.{declared_at, entry, or_else}
use Rattle.class_verify_flow.proofs.Walk.{before_start}
use Rattle.class_verify_flow.proofs.pass.first_frame.Goals as goal

pub returns-in-None : goal.returns-in-None
returns-in-None c =
    let b = body c.args.method.now in
    IfOk-weaker c.entry_frame.result _ _ (λ f h. before_start b
    ∙ ap (λ o. or_else (declared_at b o) (Some (entry b))) (ap (λ xs. slice_get xs 0) (sym c.as_slice.ensures) ∙ sym c.in-None.ensures) ∙ ap Some (sym h)) c.entry_frame.ensures

pub returns-in-None-declared_frame : goal.returns-in-None-declared_frame
returns-in-None-declared_frame c =
    let b = body c.args.method.now in
    IfOk-weaker c.entry_frame-in-None-declared_frame.result _ _ (λ f h. before_start b
    ∙ ap (λ o. or_else (declared_at b o) (Some (entry b))) (ap (λ xs. slice_get xs 0) (sym c.as_slice.ensures) ∙ sym c.in-Some.ensures)
    ∙ ap (λ o. or_else o (Some (entry b))) c.in-None-declared_frame.ensures ∙ ap Some (sym h)) c.entry_frame-in-None-declared_frame.ensures

pub returns-in-Some-declared_frame : goal.returns-in-Some-declared_frame
returns-in-Some-declared_frame c =
    let b = body c.args.method.now in
    IfOk-weaker c.shown_frame.result _ _ (λ f h. before_start b
    ∙ ap (λ o. or_else (declared_at b o) (Some (entry b))) (ap (λ xs. slice_get xs 0) (sym c.as_slice.ensures) ∙ sym c.in-Some.ensures)
    ∙ ap (λ o. or_else o (Some (entry b))) c.in-Some-declared_frame.ensures ∙ ap Some (sym h)) c.shown_frame.ensures
