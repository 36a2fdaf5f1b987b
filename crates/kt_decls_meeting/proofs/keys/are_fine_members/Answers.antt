use Rattle.std.specs.Prelude.{List, map}
use Rattle.std.proofs.Common.{arith}
use Rattle.std.specs.List.{flat_map}
use Rattle.kt_tree.specs.Declarations.{declaration_tree, member_tree}
use Rattle.kt_decls_rules.specs.ClassRules.{IsFineAbove}
use Rattle.kt_decls_rules.specs.Members.{method_of}
use Rattle.kt_decls_meeting.specs.Keys.{AreKeys}
use Rattle.std.specs.Prelude.{drop, ◌+◌}
use Rattle.kt_decls_meeting.proofs.KeysParted.{parted}
use Rattle.kt_tree.specs.declared.declarations.ClassMember.{ClassMember}
use Rattle.kt_decls_bounds.proofs.Deciding.{next, stops, goes, ends}
use Rattle.kt_decls_meeting.proofs.keys.are_fine_members.Goals as goal

pub returns-then-not-fine : goal.returns-then-not-fine
returns-then-not-fine c = stops c.in_ok-fine.fine (parted (IsFineAbove (map declaration_tree c.args.file.now) c.args.row c.args.needs_bodies c.args.is_data (declaration_tree c.args.declaration.now)) (method_of (member_tree c.member-item.result)) (flat_map method_of (map member_tree (drop (c.loop-member.member-index + 1) c.args.members.now))) (next (λ (xs : List ClassMember). AreKeys (IsFineAbove (map declaration_tree c.args.file.now) c.args.row c.args.needs_bodies c.args.is_data (declaration_tree c.args.declaration.now)) (flat_map method_of (map member_tree xs))) c.args.members.now c.loop-member.member-index c.member-item.result (omega arith) c.member-item.is c.loop-member.invariant)) c.in_ok-fine.ensures c.if-not-fine.true

pub loop-member-preserved : goal.loop-member-preserved
loop-member-preserved c = goes c.in_ok-fine.fine (parted (IsFineAbove (map declaration_tree c.args.file.now) c.args.row c.args.needs_bodies c.args.is_data (declaration_tree c.args.declaration.now)) (method_of (member_tree c.member-item.result)) (flat_map method_of (map member_tree (drop (c.loop-member.member-index + 1) c.args.members.now))) (next (λ (xs : List ClassMember). AreKeys (IsFineAbove (map declaration_tree c.args.file.now) c.args.row c.args.needs_bodies c.args.is_data (declaration_tree c.args.declaration.now)) (flat_map method_of (map member_tree xs))) c.args.members.now c.loop-member.member-index c.member-item.result (omega arith) c.member-item.is c.loop-member.invariant)) c.in_ok-fine.ensures c.if-not-fine.false

pub returns : goal.returns
returns c = ends (λ (xs : List ClassMember). AreKeys (IsFineAbove (map declaration_tree c.args.file.now) c.args.row c.args.needs_bodies c.args.is_data (declaration_tree c.args.declaration.now)) (flat_map method_of (map member_tree xs))) c.args.members.now c.loop-member.member-index (omega arith) tt c.loop-member.invariant
