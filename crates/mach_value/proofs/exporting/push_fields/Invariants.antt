use Rattle.std.proofs.Common.{◌≡◌, ◌≤◌, ◌++◌, length, map, take}
use Rattle.mach_value.specs.declared.exporting.Pending.TheVariants.{Enter}
use Rattle.mach_value.proofs.exporting.push_fields.Given as goal

abbrev pub invariant-loop-left : goal.invariant-loop-left
invariant-loop-left l =
    (l.left ≤ length l.fields) × (map Enter (take l.left l.fields) ++ l.pending ≡ map Enter l.fields ++ l.fn.pending)

abbrev pub decreases-loop-left : goal.decreases-loop-left
decreases-loop-left l = l.left
