use Rattle.std.proofs.Common.{◌≡◌, ◌+◌, drop, length}
use Rattle.jvm_code.specs.Decoding.{rows}
use Rattle.jvm_code.specs.Spelling.{spelling, Follows}
use Rattle.jvm_class.proofs.code.length_of.Given as goal

abbrev pub invariant-loop-item : goal.invariant-loop-item
invariant-loop-item l = record {
  follows : Follows l.end (rows (drop l.item-index l.code));
  so_far : l.end + length (spelling (rows (drop l.item-index l.code))) ≡ length (spelling (rows l.code));
}
