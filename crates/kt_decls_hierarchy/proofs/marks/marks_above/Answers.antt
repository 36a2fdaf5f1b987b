use Rattle.kt_decls_hierarchy.proofs.ComingRight.{comes_right}
use Rattle.kt_decls_hierarchy.proofs.marks.marks_above.Goals as goal

pub returns-then-not-round : goal.returns-then-not-round
returns-then-not-round c = comes_right c.args.graph.now c.args.own.now c.round.new.marks.items c.round.ensures.marking c.requires (c.round.ensures.closed c.if-not-round.true)
