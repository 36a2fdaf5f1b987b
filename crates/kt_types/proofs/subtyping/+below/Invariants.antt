use Rattle.std.proofs.Common.{◌+◌, ◌*◌}
use Rattle.kt_types.proofs.subtyping.+below.Given as goal

abbrev pub decreases-is_shape_below : goal.decreases-is_shape_below
decreases-is_shape_below l = 2 * l.steps + 1

abbrev pub decreases-is_parameter_below : goal.decreases-is_parameter_below
decreases-is_parameter_below l = 2 * l.steps
