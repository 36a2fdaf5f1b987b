use Rattle.std.proofs.Common.{◌∙◌, sym}
use Rattle.kt_typed.specs.Bodies.{fun_form}
use Rattle.kt_direct_lambdas.proofs.Taken.{shared_is}
use Rattle.kt_direct_lambdas.proofs.taking.is_shared.Goals as goal

pub returns : goal.returns
returns c = c.in_body.ensures ∙ sym (shared_is (fun_form c.args.body.now) c.args.n)
