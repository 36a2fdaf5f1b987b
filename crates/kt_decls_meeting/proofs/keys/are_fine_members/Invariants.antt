use Rattle.std.specs.Prelude.{◌↔◌, map, drop}
use Rattle.std.specs.List.{flat_map}
use Rattle.kt_tree.specs.Declarations.{declaration_tree, member_tree}
use Rattle.kt_decls_rules.specs.ClassRules.{IsFineAbove}
use Rattle.kt_decls_rules.specs.Members.{method_of}
use Rattle.kt_decls_meeting.specs.Keys.{AreKeys}
use Rattle.kt_decls_meeting.proofs.keys.are_fine_members.Given as goal

abbrev pub invariant-loop-member : goal.invariant-loop-member
invariant-loop-member l =
    AreKeys (IsFineAbove (map declaration_tree l.file) l.row l.needs_bodies l.is_data (declaration_tree l.declaration)) (flat_map method_of (map member_tree l.members)) ↔ AreKeys (IsFineAbove (map declaration_tree l.file) l.row l.needs_bodies l.is_data (declaration_tree l.declaration)) (flat_map method_of (map member_tree (drop l.member-index l.members)))
