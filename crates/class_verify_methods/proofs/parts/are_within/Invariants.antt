use Rattle.std.proofs.Common.{◌≡◌, ◌≤◌, drop}
use Rattle.std.specs.Prelude.{◌↔◌}
use Rattle.class_verify_rules.specs.Kinds.{units}
use Rattle.class_verify_methods.proofs.parts.are_within.Given as goal

abbrev pub invariant-loop-kind : goal.invariant-loop-kind
invariant-loop-kind l = (units l.kinds ≤ l.most) ↔ (units (drop l.kind-index l.kinds) ≤ l.left)
