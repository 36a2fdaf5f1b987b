use Rattle.jvm_pool.proofs.Kept as kept
use Rattle.jvm_pool.proofs.laws.one_index.Goals as goal

pub returns : goal.returns
returns c = kept.one_index
