use Rattle.std.proofs.Common.{◌≡◌, ℕ}
use Rattle.class_verify_frames.specs.Views.{body}
use Rattle.class_verify_turns.specs.Timing.{Adds, IsTarget}
use Rattle.class_verify_turns.proofs.paths.push_targets.Given as goal

abbrev pub invariant-loop-target : goal.invariant-loop-target
invariant-loop-target l = Adds (IsTarget (body l.method) l.targets l.target-index) l.fn.row l.row
