use Rattle.std.proofs.Common.{ℕ, ◌≤◌}
use Rattle.class_verify_rules.specs.Verified.{Keeps}
use Rattle.class_verify.proofs.classes.class_fault.Given as goal

abbrev pub invariant-loop-place : goal.invariant-loop-place
invariant-loop-place l = (n at : ℕ) → n ≤ l.place → Keeps l.program l.class n at
