use Rattle.jvm_pool_bytes.proofs.PoolAgain.{pool_is_read}
use Rattle.jvm_pool_bytes.proofs.laws.pool_is_read.Goals as goal

pub returns : goal.returns
returns c = pool_is_read
