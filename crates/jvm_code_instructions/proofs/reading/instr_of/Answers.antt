use Rattle.std.proofs.Common.{arith}
use Rattle.jvm_code_instructions.specs.Table.{row_of}
use Rattle.jvm_code_instructions.proofs.Instructions.{shorter}
use Rattle.jvm_code_instructions.proofs.reading.instr_of.Goals as goal

pub returns-clause-shorter : goal.returns-clause-shorter
returns-clause-shorter c = shorter (λ x. (row_of x.0, x.1.now)) c.instr_in.result c.args.at c.args.bytes.now (omega arith) (λ i. omega (arith, c.type_inv.bytes i)) c.instr_in.ensures
