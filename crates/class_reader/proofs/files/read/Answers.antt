use Rattle.class_reader.proofs.FileRead.{found_so, only_so}
use Rattle.class_reader.proofs.files.read.Goals as goal

pub returns-clause-found : goal.returns-clause-found
returns-clause-found c = found_so c.args.bytes.now c.class_of.result c.are_bytes.ensures c.class_of.ensures

pub returns-clause-only : goal.returns-clause-only
returns-clause-only c = only_so c.args.bytes.now c.class_of.result c.class_of.ensures
