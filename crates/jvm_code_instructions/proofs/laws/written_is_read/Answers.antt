use Rattle.std.proofs.Common.{arith}
use Rattle.jvm_code_instructions.proofs.Instructions.{row_again}
use Rattle.jvm_code_instructions.proofs.laws.written_is_read.Goals as goal

pub returns : goal.returns
returns c = λ r rest fits reach. row_again c.args.at r rest (omega arith) fits reach
