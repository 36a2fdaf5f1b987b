use Rattle.std.proofs.Common.{◌≡◌, ◌++◌, List}
use Rattle.std.specs.Vec.Iter.{into_iter_items}
use Rattle.jvm_pool.specs.declared.entries.Entry.{Entry}
use Rattle.jvm_pool.specs.Mentions.{with_each}
use Rattle.jvm_pool.proofs.pool.Pool.add_each.Given as goal

abbrev pub invariant-loop-e : goal.invariant-loop-e
invariant-loop-e l = record {
  left : with_each (into_iter_items l.e-iterator) l.self ≡ with_each l.fn.entries.items l.initial.self;
  grown : (more : List Entry) × (l.self ≡ l.initial.self ++ more);
}
