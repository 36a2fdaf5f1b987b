use Rattle.kt_decls_bounds.proofs.Deciding.{not_asked}
use Rattle.kt_decls_members.proofs.FineMembers.{new_if}
use Rattle.kt_decls_members.proofs.properties.are_new_parameters.Goals as goal

pub returns-then-grounded : goal.returns-then-grounded
returns-then-grounded c = new_if _ c.is_one_inherited.result _ c.is_one_inherited.ensures (c.is_grounded-grounded.ensures.0 c.if-grounded.true)

pub returns-else-grounded : goal.returns-else-grounded
returns-else-grounded c = not_asked c.is_grounded-grounded.result c.is_grounded-grounded.ensures.1 c.if-grounded.false
