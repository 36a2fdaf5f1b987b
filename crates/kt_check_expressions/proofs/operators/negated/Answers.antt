use Rattle.std.proofs.Common.{ap, sym, subst, ◌∙◌, map}
use Rattle.std.specs.Prelude.{Err}
use Rattle.kt_check_names.specs.Answers.{Answers}
use Rattle.kt_tree.specs.declared.bodies.PrefixOperator.TheVariants as before
use Rattle.kt_types_tree.specs.Types.{type_form}
use Rattle.kt_typed.specs.declared.bodies.TypedExpression.{roll-TypedExpression}
use Rattle.kt_typed.specs.Bodies.{ExpressionForm, expression_form, prefix}
use Rattle.kt_check_rules.specs.Operators as rules
use Rattle.kt_check_rules.specs.Choices.{first_some}
use Rattle.kt_check_rules.specs.Kinds.{number_type}
use Rattle.kt_check_deciding.specs.Outcomes.{there}
use Rattle.kt_check_names.specs.Views.{candidates_form, kind_form}
use Rattle.kt_check_expressions.specs.Owned.{number_form}
use Rattle.kt_check_expressions.specs.Types.{as_number}
use Rattle.kt_check_expressions.proofs.Chosen.{if_reads, none_reads, made_is}
use Rattle.kt_check_expressions.proofs.SameKind.{negated_is}
use Rattle.kt_check_expressions.proofs.operators.negated.Goals as goal

pub returns-in-Ok : goal.returns-in-Ok
returns-in-Ok c = λ s.
    let operand : ExpressionForm =
    expression_form (roll-TypedExpression (record { of_type = c.in-Ok.number.shown; kind = c.args.r.kind })) in
    if_reads candidates_form c.prefix_of.result (first_some as_number (map type_form c.args.r.types))
    (number_form c.in-Ok.number)
    (λ n. prefix (number_type n.width) before.Negate (kind_form c.args.r.kind n.shown))
    (first_some rules.negated (candidates_form c.args.r))
    (prefix (type_form c.number_type-t.result) before.Negate operand) s
    (negated_is c.args.r.kind (map type_form c.args.r.types))
    (ap (λ ts. there (first_some as_number (map type_form ts))) (sym c.as_slice.ensures) ∙ c.in-Ok.ensures)
    (ap (λ t. prefix t before.Negate operand) c.number_type-t.ensures
    ∙ ap (prefix (number_type c.in-Ok.number.width) before.Negate) (made_is c.in-Ok.number.shown c.args.r.kind))
    c.prefix_of.ensures

pub returns : goal.returns
returns c = λ s.
    none_reads number_form candidates_form c.in-Err.why (first_some as_number (map type_form c.args.r.types))
    (λ n. prefix (number_type n.width) before.Negate (kind_form c.args.r.kind n.shown))
    (first_some rules.negated (candidates_form c.args.r)) s (negated_is c.args.r.kind (map type_form c.args.r.types))
    (subst (λ ts. Answers number_form (Err c.in-Err.why) (there (first_some as_number (map type_form ts))))
    c.as_slice.ensures c.in-Err.ensures)
