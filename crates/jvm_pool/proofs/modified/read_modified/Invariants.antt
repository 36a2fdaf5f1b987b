use Rattle.std.proofs.Common.{◌≡◌, ◌++◌, length}
use Rattle.jvm_pool.specs.Modified.{modified, IsText}
use Rattle.jvm_pool.proofs.modified.read_modified.Given as goal

abbrev pub invariant-loop-rest : goal.invariant-loop-rest
invariant-loop-rest l = record {
  read : modified l.units.items ++ l.rest ≡ l.bytes;
  text : IsText l.units.items;
}

abbrev pub decreases-loop-rest : goal.decreases-loop-rest
decreases-loop-rest l = length l.rest
