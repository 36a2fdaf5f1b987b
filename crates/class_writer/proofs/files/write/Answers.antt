use Rattle.jvm_class_types.specs.Seen.{class_seen}
use Rattle.class_writer.proofs.Written.{pool_of}
use Rattle.class_writer.proofs.files.write.Goals as goal

pub put_pool-requires : goal.put_pool-requires
put_pool-requires c = pool_of c.args.class.now.pool (class_seen c.args.class.now) c.requires
