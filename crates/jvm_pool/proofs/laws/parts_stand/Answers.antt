use Rattle.jvm_pool.proofs.Closed.{parts_stand}
use Rattle.jvm_pool.proofs.laws.parts_stand.Goals as goal

pub returns : goal.returns
returns c = parts_stand
