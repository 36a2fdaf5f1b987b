use Rattle.std.proofs.Common.{arith}
use Rattle.kt_decls_hierarchy.proofs.supertypes.scope_of.Goals as goal

pub returns-clause-few : goal.returns-clause-few
returns-clause-few c = omega arith
