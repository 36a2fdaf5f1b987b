use Rattle.std.proofs.Common.{arith}
use Rattle.kt_check_paths.proofs.RowByRow.{all_are}
use Rattle.kt_check_paths.proofs.rows.from_parts.Goals as goal

pub returns : goal.returns
returns c =
    all_are _ _ _ _ _ c.loop-row.invariant
    (omega (arith, c.loop-row-test.false, c.rows_of-row-end.ensures.types))
    (omega (arith, c.loop-row-test.false, c.rows_of-row-end.ensures.surely))
    (omega (arith, c.loop-row-test.false, c.rows_of-row-end.ensures.maybe))
