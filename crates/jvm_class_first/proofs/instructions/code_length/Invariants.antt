use Rattle.std.proofs.Common.{◌≡◌, ◌+◌, ◌*◌, ◌≤◌, drop}
use Rattle.std.specs.List.{flat_map}
use Rattle.jvm_class_first.specs.ClassFile.{widths}
use Rattle.jvm_class_first.specs.Instructions.{step_pieces, instructions}
use Rattle.jvm_class_first.proofs.instructions.code_length.Given as goal

abbrev pub invariant-loop-step : goal.invariant-loop-step
invariant-loop-step l = record {
  counted : l.length + widths (flat_map step_pieces (drop l.step-index l.code)) ≡ widths (instructions l.code);
  most : l.length ≤ 4 + 6 * l.step-index;
}
