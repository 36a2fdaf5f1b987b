use Rattle.jvm_class_grammar.proofs.FileLaws.{file_is_read}
use Rattle.jvm_class_grammar.proofs.laws.file_is_read.Goals as goal

pub returns : goal.returns
returns c = file_is_read
