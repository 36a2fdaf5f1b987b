use Rattle.std.proofs.Common.{◌≡◌, ◌≤◌, max, drop}
use Rattle.std.specs.Prelude.{option_map}
use Rattle.jvm_class_first.specs.Heights.{highest_from}
use Rattle.jvm_class_first.proofs.heights.max_stack.Given as goal

abbrev pub invariant-loop-step : goal.invariant-loop-step
invariant-loop-step l = record {
  greatest : option_map (max l.highest) (highest_from (drop l.step-index l.code) l.height) ≡ highest_from l.code 0;
  most : l.height ≤ l.step-index;
  reached : l.height ≤ l.highest;
}
