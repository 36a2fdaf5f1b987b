use Rattle.kt_check_deciding.proofs.OneOfTwo.{one_of_two}
use Rattle.kt_check_deciding.proofs.laws.one_of_two.Goals as goal

pub returns : goal.returns
returns c = one_of_two
