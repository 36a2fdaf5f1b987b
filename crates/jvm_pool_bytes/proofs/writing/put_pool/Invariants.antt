use Rattle.std.proofs.Common.{◌≡◌, ◌+◌, ◌++◌, take}
use Rattle.std.specs.Int.{to_be_bytes, w16}
use Rattle.std.specs.List.{flat_map}
use Rattle.jvm_pool.specs.Entries.{units}
use Rattle.jvm_pool_bytes.specs.Spelling.{cp_info}
use Rattle.jvm_pool_bytes.proofs.writing.put_pool.Given as goal

abbrev pub invariant-loop-e : goal.invariant-loop-e
invariant-loop-e l = l.into.items ≡ l.fn.into.items ++ (to_be_bytes w16 (1 + units l.pool) ++ flat_map (cp_info l.pool) (take l.e-index l.pool))
