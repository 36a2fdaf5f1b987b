use Rattle.std.proofs.Common.{◌≡◌, max, map, drop}
use Rattle.kt_tree.specs.Levels.{most}
use Rattle.kt_tree.specs.Stages.{enum_entry_stage, enum_stage}
use Rattle.kt_tree.proofs.declarations.EnumDeclaration.stage.Given as goal

abbrev pub invariant-loop-entry : goal.invariant-loop-entry
invariant-loop-entry l = max l.most (most (map enum_entry_stage (drop l.entry-index l.entry-items))) ≡ enum_stage l.self
