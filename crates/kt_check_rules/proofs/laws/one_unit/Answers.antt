use Rattle.kt_check_rules.proofs.OnceBodies.{one_unit}
use Rattle.kt_check_rules.proofs.laws.one_unit.Goals as goal

pub returns : goal.returns
returns c = one_unit
