use Rattle.jvm_pool_bytes.proofs.Written.{has_index}
use Rattle.jvm_pool_bytes.proofs.writing.put_index.Goals as goal

pub unwrap-index-requires : goal.unwrap-index-requires
unwrap-index-requires c = has_index c.args.pool.now c.args.e.now c.index_of.result c.index_of.ensures c.requires
