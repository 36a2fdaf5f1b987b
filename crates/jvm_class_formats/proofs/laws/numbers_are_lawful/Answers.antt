use Rattle.jvm_class_formats.proofs.Parts.{numbers_are_lawful}
use Rattle.jvm_class_formats.proofs.laws.numbers_are_lawful.Goals as goal

pub returns : goal.returns
returns c = numbers_are_lawful
