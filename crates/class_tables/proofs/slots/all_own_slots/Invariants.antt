use Rattle.std.proofs.Common.{◌≡◌, ℕ, List, Some, length}
use Rattle.std.specs.Prelude.{slice_get}
use Rattle.class_linked.specs.declared.methods.MethodPlace.{MethodPlace}
use Rattle.class_tables.specs.Dispatch.{own_slots}
use Rattle.class_tables.proofs.slots.all_own_slots.Given as goal

abbrev pub invariant-loop-class : goal.invariant-loop-class
invariant-loop-class l = (length l.rows ≡ l.class)
    × ((c : ℕ) (row : List MethodPlace) → slice_get l.rows c ≡ Some row → row ≡ own_slots l.h c)
