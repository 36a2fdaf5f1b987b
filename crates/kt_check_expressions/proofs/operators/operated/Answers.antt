use Rattle.std.proofs.Common.{ap, sym, subst, ◌∙◌, map}
use Rattle.std.specs.Prelude.{Err}
use Rattle.kt_check_names.specs.Answers.{Answers}
use Rattle.kt_types_tree.specs.Hierarchy.{hierarchy_form}
use Rattle.kt_types_tree.specs.Types.{type_form}
use Rattle.kt_typed.specs.declared.bodies.TypedExpression.{roll-TypedExpression}
use Rattle.kt_typed.specs.Bodies.{ExpressionForm, expression_form, binary}
use Rattle.kt_check_deciding.specs.Expressions as spec
use Rattle.kt_check_rules.specs.Choices.{first_some, pairs}
use Rattle.kt_check_deciding.specs.Outcomes.{there}
use Rattle.kt_check_names.specs.Views.{candidates_form, context_form, kind_form}
use Rattle.kt_check_operations.specs.Types.{type_given}
use Rattle.kt_check_expressions.specs.Owned.{operated_form}
use Rattle.kt_check_expressions.specs.Types.{operated_pair}
use Rattle.kt_check_expressions.proofs.Chosen.{if_reads, none_reads, made_is}
use Rattle.kt_check_expressions.proofs.SameKind.{operated_is}
use Rattle.kt_check_expressions.proofs.operators.operated.Goals as goal

pub returns-in-Ok : goal.returns-in-Ok
returns-in-Ok c = λ s.
    let left : ExpressionForm =
    expression_form (roll-TypedExpression (record { of_type = c.in-Ok.chosen.left; kind = c.args.left.kind })) in
    let right : ExpressionForm =
    expression_form (roll-TypedExpression (record { of_type = c.in-Ok.chosen.right; kind = c.args.right.kind })) in
    if_reads candidates_form c.binary_of.result
    (first_some (operated_pair (hierarchy_form c.args.c.now.headers.now.hierarchy) c.args.operator)
    (pairs (map type_form c.args.left.types) (map type_form c.args.right.types)))
    (operated_form c.in-Ok.chosen)
    (λ p. binary p.operation.1 p.operation.0 (kind_form c.args.left.kind p.left) (kind_form c.args.right.kind p.right))
    (spec.operated (context_form c.args.c.now) c.args.operator (candidates_form c.args.left)
    (candidates_form c.args.right))
    (binary (type_form c.type_of-t.result) c.in-Ok.chosen.operation.operator left right) s
    (operated_is (context_form c.args.c.now) c.args.operator c.args.left.kind c.args.right.kind
    (map type_form c.args.left.types) (map type_form c.args.right.types))
    (ap (λ ts. there (first_some (operated_pair (hierarchy_form c.args.c.now.headers.now.hierarchy) c.args.operator)
    (pairs (map type_form ts) (map type_form c.args.right.types)))) (sym c.as_slice.ensures)
    ∙ ap (λ ts. there (first_some (operated_pair (hierarchy_form c.args.c.now.headers.now.hierarchy) c.args.operator)
    (pairs (map type_form c.as_slice.result.now) (map type_form ts)))) (sym c.as_slice-2.ensures)
    ∙ c.in-Ok.ensures)
    (ap (λ t. binary t c.in-Ok.chosen.operation.operator left right) c.type_of-t.ensures
    ∙ ap (λ u. binary (type_given c.in-Ok.chosen.operation.gives) c.in-Ok.chosen.operation.operator u right)
    (made_is c.in-Ok.chosen.left c.args.left.kind)
    ∙ ap (binary (type_given c.in-Ok.chosen.operation.gives) c.in-Ok.chosen.operation.operator
    (kind_form c.args.left.kind (type_form c.in-Ok.chosen.left)))
    (made_is c.in-Ok.chosen.right c.args.right.kind))
    c.binary_of.ensures

pub returns : goal.returns
returns c = λ s.
    none_reads operated_form candidates_form c.in-Err.why
    (first_some (operated_pair (hierarchy_form c.args.c.now.headers.now.hierarchy) c.args.operator)
    (pairs (map type_form c.args.left.types) (map type_form c.args.right.types)))
    (λ p. binary p.operation.1 p.operation.0 (kind_form c.args.left.kind p.left) (kind_form c.args.right.kind p.right))
    _ s
    (operated_is (context_form c.args.c.now) c.args.operator c.args.left.kind c.args.right.kind
    (map type_form c.args.left.types) (map type_form c.args.right.types))
    (subst (Answers operated_form (Err c.in-Err.why))
    (sym (ap (λ ts. there (first_some (operated_pair (hierarchy_form c.args.c.now.headers.now.hierarchy) c.args.operator)
    (pairs (map type_form ts) (map type_form c.args.right.types)))) (sym c.as_slice.ensures)
    ∙ ap (λ ts. there (first_some (operated_pair (hierarchy_form c.args.c.now.headers.now.hierarchy) c.args.operator)
    (pairs (map type_form c.as_slice.result.now) (map type_form ts)))) (sym c.as_slice-2.ensures))) c.in-Err.ensures)
