use Rattle.std.proofs.Common.{◌≡◌, ◌++◌, take}
use Rattle.jvm_pool.specs.Modified.{modified}
use Rattle.jvm_pool.proofs.modified.put_units.Given as goal

abbrev pub invariant-loop-unit : goal.invariant-loop-unit
invariant-loop-unit l = l.into.items ≡ l.initial.into.items ++ modified (take l.unit-index l.units)
