use Rattle.std.specs.Prelude.{map}
use Rattle.kt_tree.specs.Declarations.{declaration_tree}
use Rattle.kt_decls_bounds.proofs.Deciding.{asked, not_asked}
use Rattle.kt_decls_meeting.proofs.AllKeys.{all_told}
use Rattle.kt_decls_meeting.proofs.keys.is_fine_from_above.Goals as goal

pub returns-then-grounded : goal.returns-then-grounded
returns-then-grounded c = asked _ c.are_fine_up.result (c.is_grounded-grounded.ensures.0 c.if-grounded.true) (all_told (map declaration_tree c.args.file.now) c.args.row c.args.needs_bodies c.args.is_data (declaration_tree c.args.declaration.now) c.args.facts.now c.requires.known c.args.places.now c.requires.places c.len-steps.result c.len-steps.ensures c.are_fine_up.result c.are_fine_up.ensures)

pub returns-else-grounded : goal.returns-else-grounded
returns-else-grounded c = not_asked c.is_grounded-grounded.result c.is_grounded-grounded.ensures.1 c.if-grounded.false
