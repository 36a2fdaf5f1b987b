use Rattle.jvm_code_instructions.proofs.Rows.{operands_of}
use Rattle.jvm_code_instructions.proofs.sizes.size_of.Goals as goal

pub operand_size-requires : goal.operand_size-requires
operand_size-requires c = operands_of c.args.instr.now c.requires
