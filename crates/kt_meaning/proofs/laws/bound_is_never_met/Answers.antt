use Rattle.kt_meaning.proofs.Whole.{bound_is_never_met}
use Rattle.kt_meaning.proofs.laws.bound_is_never_met.Goals as goal

pub returns : goal.returns
returns c = bound_is_never_met
