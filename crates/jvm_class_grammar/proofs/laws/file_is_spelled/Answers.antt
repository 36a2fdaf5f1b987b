use Rattle.jvm_class_grammar.proofs.FileLaws.{file_is_spelled}
use Rattle.jvm_class_grammar.proofs.laws.file_is_spelled.Goals as goal

pub returns : goal.returns
returns c = file_is_spelled
