use Rattle.std.proofs.Common.{length}
use Rattle.kt_direct_objects.proofs.bodies.+place_among.Given as goal

abbrev pub decreases-place_among : goal.decreases-place_among
decreases-place_among l = length l.functions.now
