use Rattle.std.proofs.Common.{◌≡◌, max, map, drop}
use Rattle.kt_tree.specs.Declarations.{member_tree}
use Rattle.kt_tree.specs.Levels.{most}
use Rattle.kt_tree.specs.Stages.{member_stage}
use Rattle.kt_tree.proofs.declaration_stages.members_stage.Given as goal

abbrev pub invariant-loop-member : goal.invariant-loop-member
invariant-loop-member l =
    max l.most (most (map member_stage (map member_tree (drop l.member-index l.members))))
    ≡ most (map member_stage (map member_tree l.members))
