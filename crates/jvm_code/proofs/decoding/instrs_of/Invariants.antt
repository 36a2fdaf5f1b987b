use Rattle.std.proofs.Common.{◌≡◌, ◌-◌, ◌+◌, ◌≤◌, length}
use Rattle.jvm_code.specs.Decoding.{rows, rows_at}
use Rattle.jvm_code.proofs.Passes.{behind_code}
use Rattle.jvm_code.proofs.decoding.instrs_of.Given as goal

abbrev pub invariant-loop-rest : goal.invariant-loop-rest
invariant-loop-rest l = record {
  so_far : behind_code (rows l.code.items) (rows_at (length l.bytes - length l.code.items) (length l.bytes) l.rest) ≡ rows_at (length l.bytes) (length l.bytes) l.bytes;
  room : length l.rest + length l.code.items ≤ length l.bytes;
}

abbrev pub decreases-loop-rest : goal.decreases-loop-rest
decreases-loop-rest l = length l.rest
