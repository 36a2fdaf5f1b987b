use Rattle.std.proofs.Common.{◌≡◌, max, map, drop}
use Rattle.kt_tree.specs.Declarations.{member_tree}
use Rattle.kt_tree.specs.Levels.{counted, member_levels, most}
use Rattle.kt_tree.proofs.declaration_levels.members_levels.Given as goal

abbrev pub invariant-loop-member : goal.invariant-loop-member
invariant-loop-member l =
    max l.most (counted (most (map member_levels (map member_tree (drop l.member-index l.members)))))
    ≡ counted (most (map member_levels (map member_tree l.members)))
