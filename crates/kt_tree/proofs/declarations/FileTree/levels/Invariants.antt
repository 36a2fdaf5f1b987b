use Rattle.std.proofs.Common.{◌≡◌, max, map, drop}
use Rattle.kt_tree.specs.Declarations.{declaration_tree}
use Rattle.kt_tree.specs.Levels.{counted, declaration_levels, most}
use Rattle.kt_tree.proofs.declarations.FileTree.levels.Given as goal

abbrev pub invariant-loop-declaration : goal.invariant-loop-declaration
invariant-loop-declaration l =
    max l.most
    (counted (most (map declaration_levels (map declaration_tree (drop l.declaration-index l.declaration-items)))))
    ≡ counted (most (map declaration_levels (map declaration_tree l.declaration-items)))
