use Rattle.std.proofs.Common.{◌≡◌, ℕ, ◌<◌}
use Rattle.class_verify_rules.specs.Kinds.{fits}
use Rattle.class_verify_frames.specs.Pairs.{FitsAt}
use Rattle.class_verify_frames.proofs.kinds.locals_fit.Given as goal

abbrev pub invariant-loop-place : goal.invariant-loop-place
invariant-loop-place l = (j : ℕ) → j < l.place → FitsAt (fits l.program) l.kinds l.wanted j
