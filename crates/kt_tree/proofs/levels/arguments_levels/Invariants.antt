use Rattle.std.proofs.Common.{◌≡◌, max, map, drop}
use Rattle.kt_tree.specs.Types.{type_tree}
use Rattle.kt_tree.specs.Levels.{counted, type_levels, most}
use Rattle.kt_tree.proofs.levels.arguments_levels.Given as goal

abbrev pub invariant-loop-argument : goal.invariant-loop-argument
invariant-loop-argument l =
    max l.most (counted (most (map type_levels (map type_tree (drop l.argument-index l.arguments)))))
    ≡ counted (most (map type_levels (map type_tree l.arguments)))
