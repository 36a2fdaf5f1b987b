use Rattle.std.proofs.Common.{◌≡◌, max, map, drop}
use Rattle.kt_tree.specs.Declarations.{function_tree}
use Rattle.kt_tree.specs.Levels.{most}
use Rattle.kt_tree.specs.Stages.{function_stage}
use Rattle.kt_tree.proofs.declaration_stages.functions_stage.Given as goal

abbrev pub invariant-loop-function : goal.invariant-loop-function
invariant-loop-function l =
    max l.most (most (map function_stage (map function_tree (drop l.function-index l.functions))))
    ≡ most (map function_stage (map function_tree l.functions))
