use Rattle.std.proofs.Common.{◌+◌, ◌*◌}
use Rattle.kt_check_operations.proofs.nulls.+nulls.Given as goal

abbrev pub decreases-allows_null : goal.decreases-allows_null
decreases-allows_null l = 2 * l.steps + 1

abbrev pub decreases-bound_allows_null : goal.decreases-bound_allows_null
decreases-bound_allows_null l = 2 * l.steps
