use Rattle.jvm_pool_bytes.proofs.Ordered.{order_is_pool}
use Rattle.jvm_pool_bytes.proofs.laws.order_is_pool.Goals as goal

pub returns : goal.returns
returns c = order_is_pool
