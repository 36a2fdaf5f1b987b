use Rattle.std.proofs.Common.{◌≡◌, max, map, drop}
use Rattle.kt_tree.specs.Declarations.{supertype_tree}
use Rattle.kt_tree.specs.Levels.{counted, supertype_levels, most}
use Rattle.kt_tree.proofs.declaration_levels.supertypes_levels.Given as goal

abbrev pub invariant-loop-supertype : goal.invariant-loop-supertype
invariant-loop-supertype l =
    max l.most (counted (most (map supertype_levels (map supertype_tree (drop l.supertype-index l.supertypes)))))
    ≡ counted (most (map supertype_levels (map supertype_tree l.supertypes)))
