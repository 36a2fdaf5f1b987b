use Rattle.jvm_class_first.proofs.Unique as unique
use Rattle.jvm_class_first.proofs.laws.one_class.Goals as goal

pub returns : goal.returns
returns c = unique.one_class
