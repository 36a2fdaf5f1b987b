use Rattle.std.proofs.Common.{◌≡◌, max, map, drop}
use Rattle.kt_tree.specs.Types.{type_tree, types_of}
use Rattle.kt_tree.specs.Levels.{counted, types_levels}
use Rattle.kt_tree.proofs.+type_levels.Given as goal

abbrev pub invariant-levels::types_levels-loop-each : goal.invariant-levels::types_levels-loop-each
invariant-levels::types_levels-loop-each l =
    max l.most (counted (types_levels (types_of (map type_tree (drop l.each-index l.types)))))
    ≡ counted (types_levels (types_of (map type_tree l.types)))
