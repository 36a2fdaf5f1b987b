use Rattle.std.proofs.Common.{ℕ, ◌≡◌, ◌<◌, Some, map, length}
use Rattle.std.specs.Prelude.{slice_get}
use Rattle.kt_types_tree.specs.Hierarchy.{SuperForm, super_form, hierarchy_form}
use Rattle.kt_types_climbing.specs.OnlyWays.{LeadsNowhere}
use Rattle.kt_types_climbing.proofs.straight.only_place.Given as goal

abbrev pub invariant-loop-place : goal.invariant-loop-place
invariant-loop-place l =
    ((i : ℕ) (s : SuperForm) → i < l.place → slice_get (map super_form l.supertypes) i ≡ Some s → (l.way ≡ Some i → ⊥) → LeadsNowhere (hierarchy_form l.h) s.class l.wanted)
    × ((k : ℕ) → l.way ≡ Some k → k < length l.supertypes)
