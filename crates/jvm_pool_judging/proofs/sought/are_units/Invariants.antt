use Rattle.std.proofs.Common.{◌≡◌, drop}
use Rattle.jvm_pool.specs.Entries.{same_text}
use Rattle.jvm_pool_judging.proofs.sought.are_units.Given as goal

abbrev pub invariant-loop-index : goal.invariant-loop-index
invariant-loop-index l = same_text (drop l.index l.bytes) (drop l.index l.units) ≡ same_text l.bytes l.units
