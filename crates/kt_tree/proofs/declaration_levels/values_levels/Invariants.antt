use Rattle.std.proofs.Common.{◌≡◌, max, map, drop}
use Rattle.kt_tree.specs.Bodies.{expression_tree}
use Rattle.kt_tree.specs.Levels.{counted, levels, most}
use Rattle.kt_tree.proofs.declaration_levels.values_levels.Given as goal

abbrev pub invariant-loop-value : goal.invariant-loop-value
invariant-loop-value l =
    max l.most (counted (most (map levels (map expression_tree (drop l.value-index l.values)))))
    ≡ counted (most (map levels (map expression_tree l.values)))
