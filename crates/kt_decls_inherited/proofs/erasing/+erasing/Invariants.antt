use Rattle.std.specs.Prelude.{◌+◌, ◌*◌}
use Rattle.kt_decls_inherited.proofs.erasing.+erasing.Given as goal

abbrev pub decreases-erased_within : goal.decreases-erased_within
decreases-erased_within l = 2 * l.steps + 1

abbrev pub decreases-erased_parameter : goal.decreases-erased_parameter
decreases-erased_parameter l = 2 * l.steps
