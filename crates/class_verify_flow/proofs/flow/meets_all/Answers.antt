use Rattle.std.proofs.Common.{◌≡◌, ◌<◌, refl, subst, arith, below_more}
use Rattle.std.proofs.lemmas.Option.{get_or_from_slice_get, slice_get_within}
use Rattle.class_verify_frames.specs.Views.{body, frame}
use Rattle.class_verify_rules.specs.Typing.{Meets}
use Rattle.class_verify_flow.proofs.Deciding.{always}
use Rattle.class_verify_flow.proofs.flow.meets_all.Goals as goal

pub loop-target-preserved : goal.loop-target-preserved
loop-target-preserved c =
    below_more _ _ c.loop-target.invariant (λ to e.
    subst (λ t. Meets (body c.args.method.now) t (frame c.args.held.now)) (get_or_from_slice_get c.args.targets.now c.loop-target.target-index to _ e) (c.if-not-meets.ensures.0 refl))

pub returns : goal.returns
returns c = always (λ k x e. c.loop-target.invariant k (omega (arith, slice_get_within c.args.targets.now k x e, c.loop-target-test.false)) x e)
