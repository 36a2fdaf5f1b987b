use Rattle.std.proofs.Common.{◌≡◌, ◌≤◌, ◌<◌, drop}
use Rattle.std.specs.Prelude.{◌↔◌}
use Rattle.class_verify_rules.specs.Kinds.{units}
use Rattle.class_verify_frames.proofs.operands.is_within.Given as goal

abbrev pub invariant-loop-depth : goal.invariant-loop-depth
invariant-loop-depth l = (units l.stack ≤ l.most) ↔ (units (drop l.depth l.stack) ≤ l.left)
