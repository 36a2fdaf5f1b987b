use Rattle.kt_decls_bounds.proofs.Deciding.{after, not_first}
use Rattle.kt_decls_tops.proofs.meant.are_header_types_meant.Goals as goal

pub returns-then-bounds : goal.returns-then-bounds
returns-then-bounds c = after _ c.in_ok-bounds.bounds c.are_own_types_meant.result (rw c.type_parameters.ensures at c.in_ok-bounds.ensures) c.if-bounds.true c.are_own_types_meant.ensures

pub returns-else-bounds : goal.returns-else-bounds
returns-else-bounds c = not_first c.in_ok-bounds.bounds (rw c.type_parameters.ensures at c.in_ok-bounds.ensures) c.if-bounds.false
