use Rattle.jvm_class_first.proofs.Closed.{has_index}
use Rattle.jvm_class_first.proofs.pool_bytes.put_index.Goals as goal

pub unwrap-index-requires : goal.unwrap-index-requires
unwrap-index-requires c = has_index c.args.pool.now c.args.e.now c.index_of.result c.index_of.ensures c.requires
