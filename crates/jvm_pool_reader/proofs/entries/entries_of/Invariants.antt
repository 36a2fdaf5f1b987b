use Rattle.std.proofs.Common.{◌≡◌, map, take}
use Rattle.jvm_pool_bytes.specs.Raws.{entry_of}
use Rattle.jvm_pool_bytes.specs.Reading.{raws_of}
use Rattle.jvm_pool_reader.proofs.entries.entries_of.Given as goal

abbrev pub invariant-loop-raw : goal.invariant-loop-raw
invariant-loop-raw l = l.entries.items ≡ map (entry_of (raws_of l.raws)) (take l.raw-index (raws_of l.raws))
