use Rattle.jvm_class_first.proofs.Unique as unique
use Rattle.jvm_class_first.proofs.laws.one_code.Goals as goal

pub returns : goal.returns
returns c = unique.one_code
