use Rattle.std.proofs.Common.{arith}
use Rattle.kt_flow.proofs.Rows.{all_met}
use Rattle.kt_flow.proofs.facts.Facts.meet.Goals as goal

pub returns : goal.returns
returns c =
    all_met _ _ _ _ c.loop-row.invariant
    (omega (arith, c.loop-row-test.false, c.rows_with-row-end.ensures.mine))
    (omega (arith, c.loop-row-test.false, c.rows_with-row-end.ensures.theirs))
