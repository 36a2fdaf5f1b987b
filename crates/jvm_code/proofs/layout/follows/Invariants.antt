use Rattle.std.proofs.Common.{drop}
use Rattle.jvm_code.specs.Spelling.{Follows}
use Rattle.jvm_code.specs.Decoding.{rows}
use Rattle.jvm_code_instructions.proofs.Lengths.{Same}
use Rattle.jvm_code.proofs.layout.follows.Given as goal

abbrev pub invariant-loop-item : goal.invariant-loop-item
invariant-loop-item l = Same (Follows 0 (rows l.code)) (Follows l.next (rows (drop l.item-index l.code)))
