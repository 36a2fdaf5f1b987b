use Rattle.kt_check_rules.proofs.Placed.{one_place}
use Rattle.kt_check_rules.proofs.laws.one_place.Goals as goal

pub returns : goal.returns
returns c = one_place
