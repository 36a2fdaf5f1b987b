use Rattle.kt_values.proofs.Rows.{shift_rows}
use Rattle.kt_values.proofs.laws.shift_rows.Goals as goal

pub returns : goal.returns
returns c = shift_rows
