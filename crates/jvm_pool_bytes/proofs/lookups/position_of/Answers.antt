use Rattle.jvm_pool_bytes.proofs.Starting.{none_starts}
use Rattle.jvm_pool_bytes.proofs.lookups.position_of.Goals as goal

pub returns-clause-none : goal.returns-clause-none
returns-clause-none c =
    none_starts c.args.raws.now.keys c.args.starts.now c.args.index c.binary_search.result c.ok.result c.requires
    c.binary_search.ensures.position c.ok.ensures.value
