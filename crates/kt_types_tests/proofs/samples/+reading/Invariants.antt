use Rattle.std.proofs.Common.{◌+◌, ◌*◌, length}
use Rattle.kt_types_tests.proofs.samples.+reading.Given as goal

abbrev pub decreases-read : goal.decreases-read
decreases-read l = 2 * length l.text.now

abbrev pub decreases-with_one : goal.decreases-with_one
decreases-with_one l = 2 * length l.argument.now + 1
