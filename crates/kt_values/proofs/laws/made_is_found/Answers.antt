use Rattle.kt_values.proofs.Rows.{made_is_found}
use Rattle.kt_values.proofs.laws.made_is_found.Goals as goal

pub returns : goal.returns
returns c = made_is_found
