use Rattle.std.proofs.Common.{◌≡◌, ◌∙◌}
use Rattle.class_verify_frames.specs.Views.{body}
use Rattle.class_verify_turns.proofs.Searches.{are_next}
use Rattle.class_verify_turns.proofs.paths.places_behind.Goals as goal

pub returns : goal.returns
returns c =
    are_next (body c.args.method.now) c.args.place c.args.instruction.now c.requires.is c.requires.plain c.new-row.result _ _ _ c.as_slice.result.now
    c.new-row.ensures (c.as_slice.ensures.value ∙ c.in_ok-targets.ensures) c.in_ok-push_on.ensures c.in_ok-push_targets.ensures c.in_ok-push_handlers.ensures
