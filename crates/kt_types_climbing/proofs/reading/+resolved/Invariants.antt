use Rattle.std.proofs.Common.{length}
use Rattle.kt_types_climbing.specs.Reading.{layers}
use Rattle.kt_types_climbing.proofs.reading.+resolved.Given as goal

abbrev pub decreases-resolved : goal.decreases-resolved
decreases-resolved l = length (layers l.environment.now)
