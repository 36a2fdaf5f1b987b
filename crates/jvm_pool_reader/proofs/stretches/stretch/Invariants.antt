use Rattle.std.proofs.Common.{◌-◌}
use Rattle.jvm_pool_bytes.specs.Raws.{raw_units}
use Rattle.jvm_pool_bytes.specs.Reading.{raws_of}
use Rattle.jvm_pool_reader.proofs.Steps.{Stretching}
use Rattle.jvm_pool_reader.proofs.stretches.stretch.Given as goal

abbrev pub invariant-entries : goal.invariant-entries
invariant-entries l = Stretching l.units l.initial.rest l.raws l.rest

abbrev pub decreases-entries : goal.decreases-entries
decreases-entries l = l.units - raw_units (raws_of l.raws)
