use Rattle.jvm_class_grammar.proofs.FileLaws.{one_class}
use Rattle.jvm_class_grammar.proofs.laws.one_class.Goals as goal

pub returns : goal.returns
returns c = one_class
