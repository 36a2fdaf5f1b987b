use Rattle.jvm_code_instructions.proofs.Rows.{allowed_of, operands_of}
use Rattle.jvm_code_instructions.proofs.allowed.is_allowed.Goals as goal

pub returns : goal.returns
returns c = (λ t. allowed_of c.args.instr.now c.widths.ensures (c.has_operands.ensures.0 t), λ a. c.has_operands.ensures.1 (operands_of c.args.instr.now a))
