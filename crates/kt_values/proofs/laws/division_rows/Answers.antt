use Rattle.kt_values.proofs.Rows.{division_rows}
use Rattle.kt_values.proofs.laws.division_rows.Goals as goal

pub returns : goal.returns
returns c = division_rows
