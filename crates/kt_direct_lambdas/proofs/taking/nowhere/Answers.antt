use Rattle.std.proofs.Common.{sym}
use Rattle.kt_direct_lambdas.proofs.Taken.{taken_in_none}
use Rattle.kt_direct_lambdas.proofs.taking.nowhere.Goals as goal

pub returns : goal.returns
returns c = sym (taken_in_none c.args.n)
