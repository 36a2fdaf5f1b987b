use Rattle.std.proofs.Common.{◌≡◌, ◌+◌, ◌-◌, ◌≤◌, ◌<◌, true, false, arith}
use Rattle.class_verify_frames.proofs.Pairs.{units_next}
use Rattle.class_verify_frames.proofs.operands.is_within.Goals as goal

pub returns-then-width-left : goal.returns-then-width-left
returns-then-width-left c =
    let e = units_next c.args.stack.now c.loop-depth.depth c.kind_at.result c.kind_at.ensures in
    (λ t. absurd cc, λ h. absurd (omega (arith, c.loop-depth.invariant.0 h, e, c.width_of-width.ensures.is, c.if-width-left.true)))

pub loop-depth-preserved : goal.loop-depth-preserved
loop-depth-preserved c =
    let e = units_next c.args.stack.now c.loop-depth.depth c.kind_at.result c.kind_at.ensures in (
      λ h. omega (arith, c.loop-depth.invariant.0 h, e, c.width_of-width.ensures.is, c.if-width-left.false),
      λ h. c.loop-depth.invariant.1 (omega (arith, h, e, c.width_of-width.ensures.is, c.if-width-left.false)),
    )
