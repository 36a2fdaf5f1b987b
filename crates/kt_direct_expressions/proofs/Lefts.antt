-- An operator with its left operand first.
use Rattle.std.proofs.Common.{◌≡◌, Bool, refl}
use Rattle.kt_typed.specs.declared.operators.TypedOperator.{TypedOperator}
use Rattle.kt_typed.specs.declared.operators.TypedOperator.TheVariants as operator
use Rattle.kt_values.specs.Values.{Value}
use Rattle.kt_values.specs.Runs.{Store, Run, then_do}
use Rattle.kt_meaning.specs.Activations.{Activation}
use Rattle.kt_meaning.specs.Operators.{operation}
use Rattle.kt_direct_frames.specs.Operands.{with_left}

pub left_first : (here : Activation) (o : TypedOperator) (is_null : Bool) (left right : Run Value) (s : Store)
    → operation here o is_null left right s ≡ then_do (left s) (with_left here o is_null right)
left_first here operator.Disjunction is_null left right s = refl
left_first here operator.Conjunction is_null left right s = refl
left_first here operator.Elvis is_null left right s = refl
left_first here operator.Equal is_null left right s = refl
left_first here operator.NotEqual is_null left right s = refl
left_first here operator.Concatenate is_null left right s = refl
left_first here (operator.Arithmetic a w) is_null left right s = refl
left_first here (operator.Bitwise a w) is_null left right s = refl
left_first here (operator.Shift a w) is_null left right s = refl
left_first here (operator.Compare a k) is_null left right s = refl
