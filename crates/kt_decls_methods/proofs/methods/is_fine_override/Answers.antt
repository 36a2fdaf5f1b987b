use Rattle.kt_decls_bounds.proofs.Deciding.{asked, not_asked}
use Rattle.kt_decls_methods.proofs.methods.is_fine_override.Goals as goal

pub returns-then-grounded : goal.returns-then-grounded
returns-then-grounded c = asked _ c.overrides_well.result (c.is_grounded-grounded.ensures.0 c.if-grounded.true) c.overrides_well.ensures

pub returns-else-grounded : goal.returns-else-grounded
returns-else-grounded c = not_asked c.is_grounded-grounded.result c.is_grounded-grounded.ensures.1 c.if-grounded.false
