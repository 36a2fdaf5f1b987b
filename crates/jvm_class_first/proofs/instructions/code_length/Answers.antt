use Rattle.std.proofs.Common.{arith}
use Rattle.jvm_class_first.proofs.Parts.{code_width}
use Rattle.jvm_class_first.proofs.instructions.code_length.Goals as goal

pub loop-step-init : goal.loop-step-init
loop-step-init c = record { counted = omega (arith, code_width c.args.code.now); most = omega arith }
