use Rattle.std.proofs.Common.{◌≡◌, length, sym, ap, ◌∙◌}
use Rattle.std.specs.Prelude.{slice_get}
use Rattle.std.proofs.lemmas.Result.{IfOk-weaker}
use Rattle.class_verify_frames.specs.Views.{body}
use Rattle.class_verify_turns.proofs.Searches.{are_early}
use Rattle.class_verify_turns.proofs.paths.early_places.Goals as goal

pub returns : goal.returns
returns c =
    IfOk-weaker c.supers_of.result _ _ (λ row s.
    are_early (body c.args.method.now) c.as_slice.result.now (ap length c.as_slice.ensures ∙ c.in_ok-rows.ensures.long)
    (λ k r e. c.in_ok-rows.ensures.each k r (ap (λ xs. slice_get xs k) (sym c.as_slice.ensures) ∙ e)) row s) c.supers_of.ensures
