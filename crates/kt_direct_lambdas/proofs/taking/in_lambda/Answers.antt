use Rattle.std.proofs.Common.{◌∙◌, sym}
use Rattle.kt_typed.specs.Bodies.{fun_form}
use Rattle.kt_direct_lambdas.proofs.Taken.{taken_in_lambda}
use Rattle.kt_direct_lambdas.proofs.taking.in_lambda.Goals as goal

pub returns : goal.returns
returns c = λ k. c.takes.ensures ∙ sym (taken_in_lambda c.args.n k (fun_form c.args.body.now))
