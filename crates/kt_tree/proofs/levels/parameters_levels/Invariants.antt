use Rattle.std.proofs.Common.{◌≡◌, max, map, drop}
use Rattle.kt_tree.specs.Bodies.{parameter_tree}
use Rattle.kt_tree.specs.Levels.{counted, parameter_levels, most}
use Rattle.kt_tree.proofs.levels.parameters_levels.Given as goal

abbrev pub invariant-loop-parameter : goal.invariant-loop-parameter
invariant-loop-parameter l =
    max l.most (counted (most (map parameter_levels (map parameter_tree (drop l.parameter-index l.parameters)))))
    ≡ counted (most (map parameter_levels (map parameter_tree l.parameters)))
