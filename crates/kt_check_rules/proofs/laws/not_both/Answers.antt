use Rattle.kt_check_rules.proofs.Placed.{not_both}
use Rattle.kt_check_rules.proofs.laws.not_both.Goals as goal

pub returns : goal.returns
returns c = not_both
