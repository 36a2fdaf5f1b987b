use Rattle.jvm_pool_bytes.proofs.PoolFound.{pool_is_spelled}
use Rattle.jvm_pool_bytes.proofs.laws.pool_is_spelled.Goals as goal

pub returns : goal.returns
returns c = pool_is_spelled
