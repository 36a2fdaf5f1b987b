use Rattle.std.proofs.Common.{length}
use Rattle.kt_direct_classes.proofs.supers.+first_class.Given as goal

abbrev pub decreases-first_class : goal.decreases-first_class
decreases-first_class l = length l.supertypes.now
