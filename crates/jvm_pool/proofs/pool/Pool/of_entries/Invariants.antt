use Rattle.std.proofs.Common.{◌≡◌, ◌++◌}
use Rattle.std.specs.Vec.Iter.{into_iter_items}
use Rattle.jvm_pool.proofs.pool.Pool.of_entries.Given as goal

abbrev pub invariant-loop-e : goal.invariant-loop-e
invariant-loop-e l = l.pool ++ into_iter_items l.e-iterator ≡ l.fn.entries.items
