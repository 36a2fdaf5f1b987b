use Rattle.std.proofs.Common.{◌∙◌, arith}
use Rattle.jvm_class_first.proofs.Parts.{step_more}
use Rattle.jvm_class_first.proofs.instructions.put_steps.Goals as goal

pub loop-step-preserved : goal.loop-step-preserved
loop-step-preserved c = record {
  written = step_more c.args.code.now c.loop-step.step-index _ c.loop-step.draft c.put_step.new.draft (omega arith) c.in_ok-put_step.ensures.ok ∙ c.loop-step.invariant.written;
  grows = omega (arith, c.in_ok-put_step.ensures.grows, c.loop-step.invariant.grows);
}
