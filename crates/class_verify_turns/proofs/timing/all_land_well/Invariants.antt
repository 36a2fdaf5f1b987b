use Rattle.std.proofs.Common.{◌≡◌, ℕ, ◌<◌, ◌≤◌, Some, true}
use Rattle.std.specs.Prelude.{slice_get}
use Rattle.class_verify_frames.specs.Views.{body}
use Rattle.class_verify_rules.specs.Bodies.{starting_at}
use Rattle.class_verify_rules.specs.Turns.{is_tick_at}
use Rattle.class_verify_turns.proofs.timing.all_land_well.Given as goal

abbrev pub invariant-loop-target : goal.invariant-loop-target
invariant-loop-target l = (k : ℕ) → k < l.target-index → (to : ℕ) → slice_get l.targets k ≡ Some to → to ≤ l.offset → is_tick_at (body l.method) (starting_at (body l.method) to) ≡ true
