use Rattle.jvm_pool.proofs.Order.{in_order, in_order_is}
use Rattle.jvm_pool.proofs.laws.one_order.Goals as goal

pub returns : goal.returns
returns c es ms = (in_order_is es ms, in_order es ms)
