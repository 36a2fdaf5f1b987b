use Rattle.kt_decls_grounded.proofs.Settled.{told}
use Rattle.kt_decls_grounded.proofs.grounding.grounded_rows.Goals as goal

pub returns-then-not-round : goal.returns-then-not-round
returns-then-not-round c = told c.args.graph.now c.round.new.done.items c.round.ensures.settled c.round.ensures.long (c.round.ensures.stuck c.if-not-round.true)
