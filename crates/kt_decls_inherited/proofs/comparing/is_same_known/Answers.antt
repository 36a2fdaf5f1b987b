use Rattle.kt_decls_inherited.proofs.Same.{other_then, same_then}
use Rattle.kt_decls_inherited.proofs.comparing.is_same_known.Goals as goal

pub returns-then-same : goal.returns-then-same
returns-then-same c = same_then c.args.a.now c.args.b.now c.is_same-same.result c.are_same.result c.is_same-same.ensures c.if-same.true (rw c.as_slice.ensures at (rw c.as_slice-then-same.ensures at c.are_same.ensures))

pub returns-else-same : goal.returns-else-same
returns-else-same c = other_then c.args.a.now c.args.b.now c.is_same-same.result c.is_same-same.ensures c.if-same.false
