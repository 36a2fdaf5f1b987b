use Rattle.kt_types_order.proofs.Rules.{any_is_greatest}
use Rattle.kt_types_order.proofs.laws.any_is_greatest.Goals as goal

pub returns : goal.returns
returns c = any_is_greatest
