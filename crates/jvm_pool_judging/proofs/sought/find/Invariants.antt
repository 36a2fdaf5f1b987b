use Rattle.std.proofs.Common.{◌≡◌, drop}
use Rattle.jvm_pool.specs.Mentions.{has}
use Rattle.jvm_pool_judging.specs.Placing.{entry_sought}
use Rattle.jvm_pool_judging.proofs.sought.find.Given as goal

abbrev pub invariant-loop-e : goal.invariant-loop-e
invariant-loop-e l = has (drop l.e-index l.entries) (entry_sought l.sought) ≡ has l.entries (entry_sought l.sought)
