use Rattle.std.proofs.Common.{◌≡◌, ◌+◌, ◌*◌, map, drop}
use Rattle.std.specs.List.{list_any}
use Rattle.kt_types_tree.specs.Hierarchy.{super_form}
use Rattle.kt_typed.specs.Units.{unit_form}
use Rattle.kt_meaning.specs.Classes.{is_below_within}
use Rattle.kt_direct_classes.proofs.below.+below.Given as goal

abbrev pub decreases-is_any_below : goal.decreases-is_any_below
decreases-is_any_below l = 2 * l.steps + 1

abbrev pub decreases-is_below_within : goal.decreases-is_below_within
decreases-is_below_within l = 2 * l.steps

abbrev pub invariant-is_any_below-loop-above : goal.invariant-is_any_below-loop-above
invariant-is_any_below-loop-above l =
    list_any (λ s. is_below_within (unit_form l.unit) l.steps s.class l.d) (map super_form l.supertypes)
    ≡ list_any (λ s. is_below_within (unit_form l.unit) l.steps s.class l.d)
    (map super_form (drop l.above-index l.supertypes))
