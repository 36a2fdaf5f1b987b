use Rattle.std.proofs.Common.{◌≡◌, ℕ, ◌<◌, ◌+◌, ◌-◌, true, false, length, replicate, refl, arith, below_more}
use Rattle.class_linked.specs.declared.kinds.Kind.TheVariants.{Top}
use Rattle.class_verify_frames.proofs.Pairs.{padded_at}
use Rattle.class_verify_frames.proofs.kinds.locals_fit.Goals as goal

pub returns-then-not-local_fits_at : goal.returns-then-not-local_fits_at
returns-then-not-local_fits_at c = (
  λ t. absurd cc,
  λ h. c.if-not-local_fits_at.ensures.1 (padded_at c.args.program.now c.args.kinds.now c.args.wanted.now (replicate (c.args.most - length c.args.wanted.now) Top) c.loop-place.place h (omega arith)),
)

pub loop-place-preserved : goal.loop-place-preserved
loop-place-preserved c = below_more _ _ c.loop-place.invariant (c.if-not-local_fits_at.ensures.0 refl)
