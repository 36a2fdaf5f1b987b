use Rattle.std.specs.Prelude.{map}
use Rattle.std.proofs.Common.{arith}
use Rattle.kt_tree.specs.Declarations.{declaration_tree}
use Rattle.kt_types_tree.specs.Hierarchy.{hierarchy_form}
use Rattle.kt_decls_rules.specs.Members.{inherited}
use Rattle.kt_decls_rules.specs.Tables.{hierarchy_of}
use Rattle.kt_decls_inherited.specs.Sights.{sight_form}
use Rattle.kt_decls_meeting.proofs.AgreeingSo.{all_told, few_told, not_fine, one_alone}
use Rattle.kt_decls_meeting.proofs.meeting.do_meet.Goals as goal

pub returns-then-not-fine : goal.returns-then-not-fine
returns-then-not-fine c = not_fine (hierarchy_of (map declaration_tree c.args.file.now)) (hierarchy_form c.args.facts.now.hierarchy) c.requires.known.tree c.args.needs_body (inherited (map declaration_tree c.args.file.now) c.args.name.now c.args.count c.args.row) (map sight_form c.in_ok-above.above) c.in_ok-above.ensures c.are_seen_fine-fine.result (rw c.as_slice.ensures at c.are_seen_fine-fine.ensures) c.if-not-fine.true

pub returns-then-len-lt2 : goal.returns-then-len-lt2
returns-then-len-lt2 c = one_alone (hierarchy_of (map declaration_tree c.args.file.now)) (hierarchy_form c.args.facts.now.hierarchy) c.requires.known.tree c.args.needs_body (inherited (map declaration_tree c.args.file.now) c.args.name.now c.args.count c.args.row) (map sight_form c.in_ok-above.above) c.in_ok-above.ensures c.are_seen_fine-fine.result (rw c.as_slice.ensures at c.are_seen_fine-fine.ensures) c.if-not-fine.false (few_told c.in_ok-above.above (omega arith))

pub returns : goal.returns
returns c = all_told (hierarchy_of (map declaration_tree c.args.file.now)) (hierarchy_form c.args.facts.now.hierarchy) c.requires.known.tree c.args.needs_body (inherited (map declaration_tree c.args.file.now) c.args.name.now c.args.count c.args.row) (map sight_form c.in_ok-above.above) c.in_ok-above.ensures c.are_seen_fine-fine.result (rw c.as_slice.ensures at c.are_seen_fine-fine.ensures) c.if-not-fine.false c.are_descriptors_fine.result c.are_descriptors_fine.ensures
