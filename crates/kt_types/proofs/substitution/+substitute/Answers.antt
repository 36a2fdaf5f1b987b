use Rattle.std.proofs.Common.{refl}
use Rattle.kt_types.proofs.Arguments.{substituted_map}
use Rattle.kt_types.proofs.substitution.+substitute.Goals as goal

pub substitute_of-returns : goal.substitute_of-returns
substitute_of-returns t c = rw (c.of.ensures, c.in_ok-all.ensures, substituted_map) refl
