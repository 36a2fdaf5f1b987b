use Rattle.std.proofs.Common.{◌≡◌, ◌+◌, ◌++◌, take}
use Rattle.std.specs.List.{flat_map}
use Rattle.jvm_pool.specs.Entries.{units}
use Rattle.jvm_class_first.specs.ClassFile.{u2, cp_info}
use Rattle.jvm_class_first.proofs.pool_bytes.put_pool.Given as goal

abbrev pub invariant-loop-e : goal.invariant-loop-e
invariant-loop-e l = l.into.items ≡ l.fn.into.items ++ (u2 (1 + units l.pool) ++ flat_map (cp_info l.pool) (take l.e-index l.pool))
