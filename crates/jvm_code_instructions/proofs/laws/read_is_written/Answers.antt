use Rattle.std.proofs.Common.{arith}
use Rattle.jvm_code_instructions.proofs.Instructions.{row_takes}
use Rattle.jvm_code_instructions.proofs.laws.read_is_written.Goals as goal

pub returns : goal.returns
returns c = λ r rest read. let t = row_takes c.args.at c.args.bytes.now (r, rest) (omega arith) (λ i. omega (arith, c.type_inv.bytes i)) read in (t.1, t.0.parts)
