-- The type of an expression.
use Rattle.std.proofs.Common.{◌≡◌, ap, ◌∙◌}
use Rattle.kt_types_tree.specs.declared.types.KtType.{KtType}
use Rattle.kt_types_tree.specs.Types.{type_form}
use Rattle.kt_typed.specs.declared.bodies.TypedKind.{TypedKind}
use Rattle.kt_typed.specs.declared.bodies.TypedExpression.{roll-TypedExpression}
use Rattle.kt_typed.specs.Bodies.{expression_form}
use Rattle.kt_check_rules.specs.Kinds.{type_of}
use Rattle.kt_check_expressions.proofs.SameKind.{has_type}
use Rattle.kt_check_expressions.proofs.Chosen.{made_is}

pub type_is : (t : KtType) (k : TypedKind) →
    type_of (expression_form (roll-TypedExpression (record { of_type = t; kind = k }))) ≡ type_form t
type_is t k = ap type_of (made_is t k) ∙ has_type k (type_form t)
