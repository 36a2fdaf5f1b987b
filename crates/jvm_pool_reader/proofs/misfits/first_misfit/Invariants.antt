use Rattle.std.proofs.Common.{◌≡◌, drop}
use Rattle.jvm_pool_bytes.specs.Reading.{first_misfit, raws_of}
use Rattle.jvm_pool_reader.proofs.misfits.first_misfit.Given as goal

abbrev pub invariant-loop-position : goal.invariant-loop-position
invariant-loop-position l = first_misfit (raws_of l.raws) l.count (drop l.position l.raws) ≡ first_misfit (raws_of l.raws) l.count l.raws
