use Rattle.std.specs.Prelude.{length}
use Rattle.kt_decls_grounded.proofs.Settled.{settled_on, fewer_open, long_on}
use Rattle.kt_decls_grounded.proofs.grounding.settle.Goals as goal

pub returns-in-None-clause-settled : goal.returns-in-None-clause-settled
returns-in-None-clause-settled c =
    settled_on c.args.graph.now _ c.args.done.now.items c.args.row c.requires.settled (rw c.deref.ensures.value at (c.is_open.ensures.0 c.if-is_open.true)) c.in-None.ensures cc

pub returns-in-None-clause-long : goal.returns-in-None-clause-long
returns-in-None-clause-long c = long_on c.args.done.now.items c.args.row (length c.args.graph.now) c.requires.long

pub returns-in-None-clause-fewer : goal.returns-in-None-clause-fewer
returns-in-None-clause-fewer c = λ _. fewer_open c.args.done.now.items c.args.row (rw c.deref.ensures.value at (c.is_open.ensures.0 c.if-is_open.true))
