-- Operations, as they are seen.
use Rattle.kt_types_tree.specs.Types.{TypeForm}
use Rattle.kt_typed.specs.declared.operators.Width.{Width}
use Rattle.kt_typed.specs.declared.operators.BitwiseOperator.{BitwiseOperator}
use Rattle.kt_typed.specs.declared.operators.ShiftOperator.{ShiftOperator}
use Rattle.kt_typed.specs.declared.operators.TypedOperator.TheVariants as op
use Rattle.kt_check_rules.specs.Kinds.{number_type, boolean_type, string_type}
use Rattle.kt_check_rules.specs.Operators as rules
use Rattle.kt_check_operations.specs.declared.operations.Gives.{Gives}
use Rattle.kt_check_operations.specs.declared.operations.Gives.TheVariants as gives
use Rattle.kt_check_operations.specs.declared.operations.Operation.{Operation}

abbrev pub type_given : Gives → TypeForm
type_given (gives.Number w) = number_type w
type_given gives.Truth = boolean_type
type_given gives.Text = string_type

abbrev pub operation_form : Operation → rules.Operation
operation_form o = (o.operator, type_given o.gives)

abbrev pub bits_of : BitwiseOperator → Width → rules.Operation
bits_of b w = (op.Bitwise b w, number_type w)

abbrev pub shift_of : ShiftOperator → Width → rules.Operation
shift_of d w = (op.Shift d w, number_type w)
