use Rattle.std.proofs.Common.{◌≡◌, ℕ, ◌<◌}
use Rattle.class_verify_rules.specs.Kinds.{operand_fits}
use Rattle.class_verify_frames.specs.Pairs.{FitsAt}
use Rattle.class_verify_frames.proofs.operands.operands_fit.Given as goal

abbrev pub invariant-loop-depth : goal.invariant-loop-depth
invariant-loop-depth l = (j : ℕ) → j < l.depth → FitsAt (operand_fits l.program) l.stack l.wanted j
