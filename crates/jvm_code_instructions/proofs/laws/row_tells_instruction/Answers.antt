use Rattle.jvm_code_instructions.proofs.Tells.{row_tells}
use Rattle.jvm_code_instructions.proofs.laws.row_tells_instruction.Goals as goal

pub returns : goal.returns
returns c = row_tells c.args.one.now c.args.other.now c.signed_numbers.ensures c.signed_numbers-2.ensures c.requires
