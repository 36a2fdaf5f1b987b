use Rattle.std.proofs.Common.{◌≡◌, ℕ, List, ◌++◌}
use Rattle.kt_outside.proofs.real.read_to_end.Given as goal

abbrev pub invariant-loop : goal.invariant-loop
invariant-loop g l = (more : List ℕ) × (l.into.items ≡ l.initial.into.items ++ more)
