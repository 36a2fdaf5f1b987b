use Rattle.kt_types_order.proofs.Rules.{preorder}
use Rattle.kt_types_order.proofs.laws.is_preorder.Goals as goal

pub returns : goal.returns
returns c = preorder
