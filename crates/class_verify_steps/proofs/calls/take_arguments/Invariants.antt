use Rattle.std.proofs.Common.{◌≡◌, ◌≤◌, drop, length, map, take}
use Rattle.std.specs.Prelude.{◌↔◌, reverse}
use Rattle.class_verify_rules.specs.Kinds.{TopFits, kind_of}
use Rattle.class_verify_steps.proofs.calls.take_arguments.Given as goal

abbrev pub invariant-loop-left : goal.invariant-loop-left
invariant-loop-left l = record {
  fits : TopFits l.program (reverse (map kind_of l.parameters)) l.fn.stack ↔ TopFits l.program (reverse (map kind_of (take l.left l.parameters))) l.stack;
  rest : drop (length (reverse (map kind_of l.parameters))) l.fn.stack ≡ drop (length (reverse (map kind_of (take l.left l.parameters)))) l.stack;
  inside : l.left ≤ length l.parameters;
}

abbrev pub decreases-loop-left : goal.decreases-loop-left
decreases-loop-left l = l.left
