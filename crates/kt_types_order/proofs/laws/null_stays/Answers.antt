use Rattle.kt_types_order.proofs.Rules.{null_stays}
use Rattle.kt_types_order.proofs.laws.null_stays.Goals as goal

pub returns : goal.returns
returns c = null_stays
