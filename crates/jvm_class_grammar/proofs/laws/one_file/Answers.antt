use Rattle.jvm_class_grammar.proofs.FileLaws.{one_file}
use Rattle.jvm_class_grammar.proofs.laws.one_file.Goals as goal

pub returns : goal.returns
returns c = one_file
