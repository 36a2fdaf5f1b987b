use Rattle.std.proofs.Common.{◌≡◌, max, map, drop}
use Rattle.kt_tree.specs.Declarations.{function_tree}
use Rattle.kt_tree.specs.Levels.{counted, function_levels, most}
use Rattle.kt_tree.proofs.declaration_levels.functions_levels.Given as goal

abbrev pub invariant-loop-function : goal.invariant-loop-function
invariant-loop-function l =
    max l.most (counted (most (map function_levels (map function_tree (drop l.function-index l.functions)))))
    ≡ counted (most (map function_levels (map function_tree l.functions)))
