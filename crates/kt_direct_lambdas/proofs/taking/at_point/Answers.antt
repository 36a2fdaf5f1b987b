use Rattle.std.proofs.Common.{sym}
use Rattle.kt_direct_lambdas.proofs.Taken.{taken_in_point}
use Rattle.kt_direct_lambdas.proofs.taking.at_point.Goals as goal

pub returns : goal.returns
returns c = λ suspends at'. sym (taken_in_point c.args.n suspends at')
