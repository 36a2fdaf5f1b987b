use Rattle.jvm_pool_reader.proofs.PoolRead.{is_pool_so}
use Rattle.jvm_pool_reader.proofs.reading.pool_behind.Goals as goal

pub pool_of-requires : goal.pool_of-requires
pool_of-requires c =
    is_pool_so c.args.count _ _ c.in_ok-raws.raws c.in_ok-raws.end c.args.place c.in-Ok.behind c.in_ok-misfit.misfit
    c.from.ensures c.from-2.ensures c.in_ok-raws.ensures c.in_ok-misfit.ensures c.in-None.is c.in-Ok.is c.requires.pool
