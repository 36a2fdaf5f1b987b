use Rattle.std.proofs.Common.{◌≡◌, ℕ, List, Some, length}
use Rattle.std.specs.Prelude.{slice_get}
use Rattle.class_supers.specs.Graph.{AreSupers}
use Rattle.class_supers.proofs.reach.all_supers.Given as goal

abbrev pub invariant-loop-start : goal.invariant-loop-start
invariant-loop-start l = (length l.rows ≡ l.start) × ((c : ℕ) (row : List ℕ) → slice_get l.rows c ≡ Some row → AreSupers l.graph c row)
