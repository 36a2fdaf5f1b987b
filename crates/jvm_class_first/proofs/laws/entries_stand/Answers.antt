use Rattle.jvm_class_first.proofs.Closed as closed
use Rattle.jvm_class_first.proofs.laws.entries_stand.Goals as goal

pub returns : goal.returns
returns c = closed.entries_stand
