use Rattle.std.proofs.Common.{◌≡◌, ◌-◌}
use Rattle.std.specs.Prelude.{map}
use Rattle.jvm_code_instructions.specs.Table.{pair_of}
use Rattle.jvm_code_instructions.specs.Reading.{pairs_at}
use Rattle.jvm_code_instructions.proofs.Loops.{behind}
use Rattle.jvm_code_instructions.proofs.switches.pairs_of.Given as goal

abbrev pub invariant-loop : goal.invariant-loop
invariant-loop l = behind (map pair_of l.pairs.items) (pairs_at l.at (l.count - l.counter) l.first l.rest) ≡ pairs_at l.at l.count 0 l.bytes
