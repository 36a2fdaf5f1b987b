use Rattle.std.proofs.Common.{◌≡◌, ◌++◌, drop}
use Rattle.std.specs.List.{flat_map}
use Rattle.kt_meaning.specs.Printing.{units_of}
use Rattle.kt_direct_classes.proofs.constants.all_units.Given as goal

abbrev pub invariant-loop-part : goal.invariant-loop-part
invariant-loop-part l =
    l.units.items ++ flat_map units_of (drop l.part-index l.parts) ≡ flat_map units_of l.parts
