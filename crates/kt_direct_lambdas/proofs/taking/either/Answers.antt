use Rattle.std.proofs.Common.{◌∙◌}
use Rattle.kt_direct_lambdas.proofs.Taken.{both_taken}
use Rattle.kt_direct_lambdas.proofs.taking.either.Goals as goal

pub returns : goal.returns
returns c = λ xs ys p q. c.one_of.ensures ∙ both_taken c.args.n xs ys c.args.a c.args.b p q
