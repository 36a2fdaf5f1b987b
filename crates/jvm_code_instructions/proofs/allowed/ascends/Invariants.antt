use Rattle.std.proofs.Common.{drop}
use Rattle.std.specs.Prelude.{map}
use Rattle.jvm_code_instructions.specs.Table.{pair_of}
use Rattle.jvm_code_instructions.specs.Spelling.{Ascends}
use Rattle.jvm_code_instructions.proofs.Lengths.{Same}
use Rattle.jvm_code_instructions.proofs.allowed.ascends.Given as goal

abbrev pub invariant-loop-pair : goal.invariant-loop-pair
invariant-loop-pair l = Same (Ascends 0 (map pair_of l.pairs)) (Ascends l.first (map pair_of (drop l.pair-index l.pairs)))
