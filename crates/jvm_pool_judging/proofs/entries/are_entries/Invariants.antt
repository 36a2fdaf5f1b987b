use Rattle.std.proofs.Common.{drop}
use Rattle.jvm_pool_bytes.specs.Spelling.{AreEntries}
use Rattle.jvm_pool_judging.proofs.Both.{Same}
use Rattle.jvm_pool_judging.proofs.entries.are_entries.Given as goal

abbrev pub invariant-loop-e : goal.invariant-loop-e
invariant-loop-e l = Same (AreEntries l.entries) (AreEntries (drop l.e-index l.entries))
