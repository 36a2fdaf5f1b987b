use Rattle.std.proofs.Common.{◌≡◌, ◌<◌, refl, subst, arith, below_more}
use Rattle.std.proofs.lemmas.Option.{get_or_from_slice_get, slice_get_within}
use Rattle.class_verify_frames.specs.Views.{body}
use Rattle.class_verify_rules.specs.Verified.{KindStands}
use Rattle.class_verify_flow.proofs.Deciding.{always}
use Rattle.class_verify_methods.proofs.parts.kinds_stand.Goals as goal

pub loop-kind-preserved : goal.loop-kind-preserved
loop-kind-preserved c =
    below_more _ _ c.loop-kind.invariant (λ x e.
    subst (KindStands (body c.args.method.now)) (get_or_from_slice_get c.args.kinds.now c.loop-kind.kind-index x _ e) (c.if-not-kind_stands.ensures.0 refl))

pub returns : goal.returns
returns c = always (λ k x e. c.loop-kind.invariant k (omega (arith, slice_get_within c.args.kinds.now k x e, c.loop-kind-test.false)) x e)
