use Rattle.std.proofs.Common.{◌≡◌, ◌≤◌, length, drop}
use Rattle.mach_value.specs.Imported.{AreUnits, built}
use Rattle.mach_value.proofs.importing.build.Given as goal

abbrev pub invariant-loop-left : goal.invariant-loop-left
invariant-loop-left l =
    (l.left ≤ length l.nodes) × (l.made ≡ built l.first (drop l.left l.nodes)) × AreUnits (drop l.left l.nodes)

abbrev pub decreases-loop-left : goal.decreases-loop-left
decreases-loop-left l = l.left
