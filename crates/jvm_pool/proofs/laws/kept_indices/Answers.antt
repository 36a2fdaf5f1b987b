use Rattle.jvm_pool.proofs.Kept as kept
use Rattle.jvm_pool.proofs.laws.kept_indices.Goals as goal

pub returns : goal.returns
returns c = kept.kept_indices
