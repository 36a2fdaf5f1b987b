use Rattle.std.proofs.Common.{◌≡◌, ◌+◌, length, ap, ◌∙◌}
use Rattle.class_verify_frames.specs.Views.{body}
use Rattle.class_verify_turns.proofs.Rows.{next_more, one_longer}
use Rattle.class_verify_turns.proofs.paths.all_next_places.Goals as goal

pub loop-place-preserved : goal.loop-place-preserved
loop-place-preserved c = record {
  long = ap length c.in_ok-push-in-Some.ensures.ok ∙ one_longer c.loop-place.rows c.in_ok-next_places-in-Some.field-0 ∙ ap (λ n. n + 1) c.loop-place.invariant.long;
  each =
      next_more (body c.args.method.now) c.loop-place.place c.loop-place.rows _ c.in_ok-next_places-in-Some.field-0
      c.in_ok-push-in-Some.ensures.ok c.loop-place.invariant.long c.loop-place.invariant.each c.in_ok-next_places-in-Some.ensures;
}
