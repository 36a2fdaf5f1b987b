use Rattle.kt_types_order.proofs.Rules.{arguments_stay}
use Rattle.kt_types_order.proofs.laws.arguments_stay.Goals as goal

pub returns : goal.returns
returns c = arguments_stay
