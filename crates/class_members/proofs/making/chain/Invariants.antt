use Rattle.std.proofs.Common.{◌≡◌}
use Rattle.class_members.specs.Above.{chain_below, climbed}
use Rattle.class_members.proofs.making.chain.Given as goal

abbrev pub invariant-loop-step : goal.invariant-loop-step
invariant-loop-step l = (l.chain ≡ chain_below l.parents l.step l.class) × (l.here ≡ climbed l.parents l.step l.class)
