use Rattle.std.specs.Prelude.{map}
use Rattle.kt_tree.specs.Declarations.{declaration_tree}
use Rattle.kt_decls_meeting.proofs.MeetingSo.{has_none, has_own}
use Rattle.kt_decls_meeting.proofs.meeting.is_fine_above.Goals as goal

pub returns-then-own : goal.returns-then-own
returns-then-own c = has_own (map declaration_tree c.args.file.now) c.args.row c.args.needs_bodies c.args.is_data (declaration_tree c.args.declaration.now) c.args.name.now c.args.count c.has_own-own.result c.has_own-own.ensures c.if-own.true

pub returns-else-own : goal.returns-else-own
returns-else-own c = has_none (map declaration_tree c.args.file.now) c.args.row c.args.needs_bodies c.args.is_data (declaration_tree c.args.declaration.now) c.args.name.now c.args.count c.has_own-own.result c.has_own-own.ensures c.if-own.false c.do_meet.result c.do_meet.ensures
