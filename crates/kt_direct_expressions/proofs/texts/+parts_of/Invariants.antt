use Rattle.std.proofs.Common.{length}
use Rattle.kt_direct_expressions.proofs.texts.+parts_of.Given as goal

abbrev pub decreases-parts_of : goal.decreases-parts_of
decreases-parts_of l = length l.parts.now
