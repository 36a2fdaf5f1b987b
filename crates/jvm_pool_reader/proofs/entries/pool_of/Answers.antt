use Rattle.jvm_pool_bytes.specs.Reading.{raws_of}
use Rattle.jvm_pool_reader.proofs.Naming.{have_names}
use Rattle.jvm_pool_reader.proofs.entries.pool_of.Goals as goal

pub entries_of-requires : goal.entries_of-requires
entries_of-requires c = have_names (raws_of c.args.raws.now) c.requires
