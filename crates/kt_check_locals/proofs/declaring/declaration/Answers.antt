use Rattle.std.proofs.Common.{Some, ap, ◌∙◌}
use Rattle.kt_typed.specs.Bodies.{declare, expression_form, some_expression}
use Rattle.kt_check_locals.proofs.Declarations.{declared_form}
use Rattle.kt_check_locals.proofs.declaring.declaration.Goals as goal

pub returns : goal.returns
returns c =
    declared_form c.args.at c.args.number (Some c.in_ok-value.value)
    ∙ ap (λ e. declare c.args.at c.args.number (some_expression (expression_form e))) c.in_ok-value.ensures
