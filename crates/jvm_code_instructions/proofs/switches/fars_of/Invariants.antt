use Rattle.std.proofs.Common.{◌≡◌, ◌-◌}
use Rattle.jvm_code_instructions.specs.Reading.{fars_at}
use Rattle.jvm_code_instructions.proofs.Loops.{behind}
use Rattle.jvm_code_instructions.proofs.switches.fars_of.Given as goal

abbrev pub invariant-loop : goal.invariant-loop
invariant-loop l = behind l.targets.items (fars_at l.at (l.count - l.counter) l.rest) ≡ fars_at l.at l.count l.bytes
