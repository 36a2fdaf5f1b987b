use Rattle.std.proofs.Common.{◌≡◌, ◌+◌, ◌≤◌, drop, length}
use Rattle.jvm_pool.specs.Modified.{modified}
use Rattle.jvm_pool_judging.proofs.texts.is_short.Given as goal

abbrev pub invariant-loop-unit : goal.invariant-loop-unit
invariant-loop-unit l = record {
  so_far : l.length + length (modified (drop l.unit-index l.units)) ≡ length (modified l.units);
  small : l.length ≤ 65535;
}
