use Rattle.kt_meaning.proofs.Whole.{courses_are_whole}
use Rattle.kt_meaning.proofs.laws.courses_are_whole.Goals as goal

pub returns : goal.returns
returns c = courses_are_whole
