use Rattle.kt_values.proofs.Rows.{written_is_read}
use Rattle.kt_values.proofs.laws.written_is_read.Goals as goal

pub returns : goal.returns
returns c = written_is_read
