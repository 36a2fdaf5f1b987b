use Rattle.jvm_pool.proofs.Closed.{mentions_stand}
use Rattle.jvm_pool.proofs.laws.mentions_stand.Goals as goal

pub returns : goal.returns
returns c = mentions_stand
