use Rattle.kt_decls_bounds.proofs.Deciding.{asked, not_asked}
use Rattle.kt_decls_bounds.proofs.bounds.is_below_if.Goals as goal

pub is_below-requires : goal.is_below-requires
is_below-requires c = (c.requires.0 c.if-ends.true).0

pub returns-then-ends : goal.returns-then-ends
returns-then-ends c = asked _ c.is_below.result (c.requires.0 c.if-ends.true) c.is_below.ensures

pub returns-else-ends : goal.returns-else-ends
returns-else-ends c = not_asked c.args.ends c.requires.1 c.if-ends.false
