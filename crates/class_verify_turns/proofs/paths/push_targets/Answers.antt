use Rattle.std.proofs.lemmas.Option.{slice_get-get_or}
use Rattle.class_verify_frames.specs.Views.{body}
use Rattle.class_verify_turns.proofs.Rows.{target_next}
use Rattle.class_verify_turns.proofs.paths.push_targets.Goals as goal

pub loop-target-preserved : goal.loop-target-preserved
loop-target-preserved c =
    target_next (body c.args.method.now) c.args.targets.now c.loop-target.target-index _ c.args.row.now c.loop-target.row _
    (slice_get-get_or c.args.targets.now c.loop-target.target-index _ c.loop-target-test.true)
    c.loop-target.invariant c.in_ok-push_place.ensures
