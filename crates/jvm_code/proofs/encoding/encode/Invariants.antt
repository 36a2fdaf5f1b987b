use Rattle.std.proofs.Common.{◌≡◌, take}
use Rattle.jvm_code.specs.Spelling.{spelling}
use Rattle.jvm_code.specs.Decoding.{rows}
use Rattle.jvm_code.proofs.encoding.encode.Given as goal

abbrev pub invariant-loop-item : goal.invariant-loop-item
invariant-loop-item l = l.out.items ≡ spelling (rows (take l.item-index l.code))
