use Rattle.std.specs.Prelude.{◌≡◌, ◌≤◌, ◌+◌, length, drop}
use Rattle.jvm_pool.specs.Modified.{modified}
use Rattle.kt_sizes.specs.Capped.{cap}
use Rattle.kt_limits.proofs.texts.units_length.Given as goal

abbrev pub invariant-loop-unit : goal.invariant-loop-unit
invariant-loop-unit l =
    (cap (l.length + length (modified (drop l.unit-index l.units))) ≡ cap (length (modified l.units)))
    × (l.length ≤ 18446744073709551615)
