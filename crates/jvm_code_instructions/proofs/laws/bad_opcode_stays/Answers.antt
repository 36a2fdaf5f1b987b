use Rattle.jvm_code_instructions.proofs.Steady.{bad_still}
use Rattle.jvm_code_instructions.proofs.laws.bad_opcode_stays.Goals as goal

pub returns : goal.returns
returns c = λ more bad. bad_still c.args.at c.args.bytes.now more bad
