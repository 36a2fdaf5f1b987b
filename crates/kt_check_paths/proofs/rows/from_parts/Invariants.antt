use Rattle.kt_flow.specs.Rows.{facts_form}
use Rattle.kt_check_paths.specs.Parts.{parts_from}
use Rattle.kt_check_paths.proofs.RowByRow.{AreBelow}
use Rattle.kt_check_paths.proofs.rows.from_parts.Given as goal

abbrev pub invariant-loop-row : goal.invariant-loop-row
invariant-loop-row l =
    AreBelow l.rows (parts_from (facts_form l.types) (facts_form l.surely) (facts_form l.maybe)) l.row
