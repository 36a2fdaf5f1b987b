use Rattle.std.proofs.Common.{◌≡◌, max, map, drop}
use Rattle.kt_tree.specs.Declarations.{declaration_tree}
use Rattle.kt_tree.specs.Levels.{most}
use Rattle.kt_tree.specs.Stages.{declaration_stage}
use Rattle.kt_tree.proofs.declarations.FileTree.stage.Given as goal

abbrev pub invariant-loop-declaration : goal.invariant-loop-declaration
invariant-loop-declaration l =
    max l.most (most (map declaration_stage (map declaration_tree (drop l.declaration-index l.declaration-items))))
    ≡ most (map declaration_stage (map declaration_tree l.declaration-items))
