use Rattle.std.specs.Vec.Iter.{into_iter_items}
use Rattle.jvm_pool.proofs.Growing.{next_absent, next_fits}
use Rattle.jvm_pool.proofs.pool.Pool.of_entries.Goals as goal

pub push-requires-clause-absent : goal.push-requires-clause-absent
push-requires-clause-absent c =
    next_absent c.loop-e.pool (into_iter_items c.loop-e.e-iterator) (into_iter_items c.next.new.self) c.args.entries.items c.in-Some.e c.loop-e.invariant c.in-Some.ensures.steps.0 c.requires.differ

pub push-requires-clause-fits : goal.push-requires-clause-fits
push-requires-clause-fits c =
    next_fits c.loop-e.pool (into_iter_items c.loop-e.e-iterator) (into_iter_items c.next.new.self) c.args.entries.items c.in-Some.e c.loop-e.invariant c.in-Some.ensures.steps.0 c.requires.fits
