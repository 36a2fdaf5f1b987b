use Rattle.std.proofs.Common.{◌≡◌, max, map, drop}
use Rattle.kt_tree.specs.Declarations.{constructor_parameter_tree}
use Rattle.kt_tree.specs.Levels.{most}
use Rattle.kt_tree.specs.Stages.{constructor_parameter_stage}
use Rattle.kt_tree.proofs.declaration_stages.constructor_parameters_stage.Given as goal

abbrev pub invariant-loop-parameter : goal.invariant-loop-parameter
invariant-loop-parameter l =
    max l.most
    (most (map constructor_parameter_stage (map constructor_parameter_tree (drop l.parameter-index l.parameters))))
    ≡ most (map constructor_parameter_stage (map constructor_parameter_tree l.parameters))
