use Rattle.std.proofs.Common.{◌≡◌, ◌++◌, map, drop}
use Rattle.kt_direct_values.specs.Forms.{value_form}
use Rattle.kt_direct_values.proofs.+copy.Given as goal

abbrev pub invariant-copies::copy_all-loop-x : goal.invariant-copies::copy_all-loop-x
invariant-copies::copy_all-loop-x l =
    map value_form l.copies ++ map value_form (drop l.x-index l.all) ≡ map value_form l.all
