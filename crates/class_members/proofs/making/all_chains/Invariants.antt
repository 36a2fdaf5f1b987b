use Rattle.std.proofs.Common.{◌≡◌, ℕ, List, Some, length}
use Rattle.std.specs.Prelude.{slice_get}
use Rattle.class_members.specs.Above.{chain_of}
use Rattle.class_members.proofs.making.all_chains.Given as goal

abbrev pub invariant-loop-class : goal.invariant-loop-class
invariant-loop-class l = (length l.chains ≡ l.class) × ((c : ℕ) (row : List ℕ) → slice_get l.chains c ≡ Some row → row ≡ chain_of l.parents c)
