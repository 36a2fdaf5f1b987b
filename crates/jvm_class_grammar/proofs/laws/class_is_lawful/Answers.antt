use Rattle.jvm_class_grammar.proofs.FileLaws.{class_is_lawful}
use Rattle.jvm_class_grammar.proofs.laws.class_is_lawful.Goals as goal

pub returns : goal.returns
returns c = class_is_lawful
