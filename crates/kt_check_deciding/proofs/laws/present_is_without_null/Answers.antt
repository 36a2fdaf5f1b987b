use Rattle.kt_check_deciding.proofs.Present.{present_is_without_null}
use Rattle.kt_check_deciding.proofs.laws.present_is_without_null.Goals as goal

pub returns : goal.returns
returns c = present_is_without_null
