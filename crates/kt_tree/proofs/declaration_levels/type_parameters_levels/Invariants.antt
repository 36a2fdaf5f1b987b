use Rattle.std.proofs.Common.{◌≡◌, max, map, drop}
use Rattle.kt_tree.specs.Declarations.{type_parameter_tree}
use Rattle.kt_tree.specs.Levels.{counted, type_parameter_levels, most}
use Rattle.kt_tree.proofs.declaration_levels.type_parameters_levels.Given as goal

abbrev pub invariant-loop-parameter : goal.invariant-loop-parameter
invariant-loop-parameter l =
    max l.most
    (counted (most (map type_parameter_levels (map type_parameter_tree (drop l.parameter-index l.parameters)))))
    ≡ counted (most (map type_parameter_levels (map type_parameter_tree l.parameters)))
