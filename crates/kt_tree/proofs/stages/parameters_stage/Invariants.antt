use Rattle.std.proofs.Common.{◌≡◌, max, map, drop}
use Rattle.kt_tree.specs.Bodies.{parameter_tree}
use Rattle.kt_tree.specs.Levels.{most}
use Rattle.kt_tree.specs.Stages.{parameter_stage}
use Rattle.kt_tree.proofs.stages.parameters_stage.Given as goal

abbrev pub invariant-loop-parameter : goal.invariant-loop-parameter
invariant-loop-parameter l =
    max l.most (most (map parameter_stage (map parameter_tree (drop l.parameter-index l.parameters))))
    ≡ most (map parameter_stage (map parameter_tree l.parameters))
