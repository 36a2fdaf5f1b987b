use Rattle.std.proofs.Common.{◌≡◌, ◌-◌, ◌≤◌, ◌++◌, length}
use Rattle.jvm_class_first.specs.Finding.{steps_front}
use Rattle.jvm_class_first.proofs.finding.steps_front.Given as goal

abbrev pub invariant-loop-rest : goal.invariant-loop-rest
invariant-loop-rest l = record {
  found : l.steps.items ++ steps_front (512 - length l.steps.items) l.pool l.rest ≡ steps_front 512 l.pool l.bytes;
  most : length l.steps.items ≤ 512;
}

abbrev pub decreases-loop-rest : goal.decreases-loop-rest
decreases-loop-rest l = 512 - length l.steps.items
