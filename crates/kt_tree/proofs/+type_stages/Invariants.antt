use Rattle.std.proofs.Common.{◌≡◌, max, map, drop}
use Rattle.kt_tree.specs.Types.{type_tree, types_of}
use Rattle.kt_tree.specs.Stages.{types_stage}
use Rattle.kt_tree.proofs.+type_stages.Given as goal

abbrev pub invariant-stages::types_stage-loop-each : goal.invariant-stages::types_stage-loop-each
invariant-stages::types_stage-loop-each l =
    max l.most (types_stage l.here (types_of (map type_tree (drop l.each-index l.types))))
    ≡ types_stage l.here (types_of (map type_tree l.types))
