use Rattle.std.proofs.Common.{length}
use Rattle.kt_direct_lambdas.proofs.taking.+is_any_captured.Given as goal

abbrev pub decreases-is_any_captured : goal.decreases-is_any_captured
decreases-is_any_captured l = length l.captures.now
