use Rattle.kt_check_deciding.proofs.Files.{decided}
use Rattle.kt_check_deciding.proofs.laws.decided.Goals as goal

pub returns : goal.returns
returns c = decided
