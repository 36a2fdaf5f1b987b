use Rattle.std.specs.Prelude.{◌≡◌, ◌≤◌, ◌+◌, length, drop}
use Rattle.std.specs.List.{flat_map}
use Rattle.jvm_pool.specs.Modified.{modified}
use Rattle.kt_sizes.specs.Capped.{cap}
use Rattle.kt_limits.specs.Noted.{units_of}
use Rattle.kt_limits.proofs.texts.parts_length.Given as goal

abbrev pub invariant-loop-part : goal.invariant-loop-part
invariant-loop-part l =
    (cap (l.length + length (modified (flat_map units_of (drop l.part-index l.parts)))) ≡ cap (length (modified (flat_map units_of l.parts))))
    × (l.length ≤ 18446744073709551615)
