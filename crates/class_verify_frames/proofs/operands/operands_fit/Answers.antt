use Rattle.std.proofs.Common.{◌≡◌, ℕ, ◌<◌, ◌+◌, true, false, refl, arith, below_more}
use Rattle.class_verify_rules.specs.Kinds.{operand_fits}
use Rattle.class_verify_frames.proofs.Pairs.{all_at}
use Rattle.class_verify_frames.proofs.operands.operands_fit.Goals as goal

pub returns-then-not-operand_fits_at : goal.returns-then-not-operand_fits_at
returns-then-not-operand_fits_at c = (
  λ t. absurd cc,
  λ h. c.if-not-operand_fits_at.ensures.1 (all_at (operand_fits c.args.program.now) c.args.stack.now c.args.wanted.now c.loop-depth.depth h (omega arith)),
)

pub loop-depth-preserved : goal.loop-depth-preserved
loop-depth-preserved c = below_more _ _ c.loop-depth.invariant (c.if-not-operand_fits_at.ensures.0 refl)
