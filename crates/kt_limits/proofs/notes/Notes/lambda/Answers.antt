use Rattle.kt_typed.specs.Bodies.{fun_form}
use Rattle.kt_limits.proofs.Noted.{seen_lambda, true_and, false_and}
use Rattle.kt_limits.proofs.notes.Notes.lambda.Goals as goal

pub returns-then-is_fine : goal.returns-then-is_fine
returns-then-is_fine c = λ all is.
    seen_lambda (fun_form c.args.body.now) c.is_fine_lambda-is_fine.result c.args.inside.are_fine c.args.inside all
    c.is_fine_lambda-is_fine.ensures (true_and c.is_fine_lambda-is_fine.result c.args.inside.are_fine c.if-is_fine.true) is

pub returns-else-is_fine : goal.returns-else-is_fine
returns-else-is_fine c = λ all is.
    seen_lambda (fun_form c.args.body.now) c.is_fine_lambda-is_fine.result c.is_fine_lambda-is_fine.result c.args.inside all
    c.is_fine_lambda-is_fine.ensures (false_and c.is_fine_lambda-is_fine.result c.args.inside.are_fine c.if-is_fine.false) is
