use Rattle.std.proofs.Common.{◌≡◌, max, map, drop}
use Rattle.kt_tree.specs.Declarations.{supertype_tree}
use Rattle.kt_tree.specs.Levels.{most}
use Rattle.kt_tree.specs.Stages.{supertype_stage}
use Rattle.kt_tree.proofs.declaration_stages.supertypes_stage.Given as goal

abbrev pub invariant-loop-supertype : goal.invariant-loop-supertype
invariant-loop-supertype l =
    max l.most (most (map supertype_stage (map supertype_tree (drop l.supertype-index l.supertypes))))
    ≡ most (map supertype_stage (map supertype_tree l.supertypes))
