use Rattle.kt_base.proofs.Ascending.{coroutines_ascend}
use Rattle.kt_base.proofs.laws.coroutines_ascend.Goals as goal

pub returns : goal.returns
returns c = coroutines_ascend
