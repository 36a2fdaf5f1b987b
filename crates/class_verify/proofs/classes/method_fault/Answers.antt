use Rattle.std.proofs.lemmas.Result.{IfOk-weaker}
use Rattle.class_verify_flow.proofs.Deciding.{holds}
use Rattle.class_verify.proofs.Refusing.{method_least}
use Rattle.class_verify.proofs.classes.method_fault.Goals as goal

pub returns-in-Some : goal.returns-in-Some
returns-in-Some c =
    IfOk-weaker c.first_fault.result _ _ (λ r h.
    method_least c.args.program.now c.args.class c.args.linked.now c.args.method.now c.in-Some.code c.as_slice.result.now c.in-Some.is c.as_slice.ensures
    (holds c.method_stands.result c.method_stands.ensures c.if-not-method_stands.false) r h) c.first_fault.ensures
