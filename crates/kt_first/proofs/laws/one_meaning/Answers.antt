use Rattle.kt_first.proofs.Meanings.{one_meaning}
use Rattle.kt_first.proofs.laws.one_meaning.Goals as goal

pub returns : goal.returns
returns c = one_meaning
