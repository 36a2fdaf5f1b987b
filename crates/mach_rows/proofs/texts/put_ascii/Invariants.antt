use Rattle.std.proofs.Common.{◌≡◌, ◌++◌, drop}
use Rattle.mach_rows.proofs.texts.put_ascii.Given as goal

abbrev pub invariant-loop-byte : goal.invariant-loop-byte
invariant-loop-byte l = l.into.items ++ drop l.byte-index l.bytes ≡ l.fn.into.items ++ l.bytes
