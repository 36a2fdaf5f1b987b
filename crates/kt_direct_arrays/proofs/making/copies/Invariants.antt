use Rattle.std.proofs.Common.{◌≡◌, map, replicate}
use Rattle.kt_direct_values.specs.Forms.{value_form}
use Rattle.kt_direct_arrays.proofs.making.copies.Given as goal

abbrev pub invariant-loop-copy : goal.invariant-loop-copy
invariant-loop-copy l = map value_form l.all ≡ replicate l._copy (value_form l.first)
