use Rattle.std.proofs.Common.{◌≡◌, ◌++◌, take}
use Rattle.std.specs.List.{flat_map}
use Rattle.jvm_code_instructions.specs.Spelling.{far_bytes}
use Rattle.jvm_code_instructions.proofs.writing.put_targets.Given as goal

abbrev pub invariant-loop-target : goal.invariant-loop-target
invariant-loop-target l = l.out.items ≡ l.fn.out.items ++ flat_map (far_bytes l.at) (take l.target-index l.targets)
