-- Types that were copied, as they are seen.
use Rattle.kt_types_tree.specs.Types.{type_form}
use Rattle.kt_check_expressions.specs.declared.operators.NumberType.{NumberType}
use Rattle.kt_check_expressions.specs.declared.operators.OperatedTypes.{OperatedTypes}
use Rattle.kt_check_expressions.specs.declared.operators.RightType.{RightType}
use Rattle.kt_check_expressions.specs.Types.{NumberForm, with_width, OperandTypes, operands}
use Rattle.kt_check_operations.specs.Types.{operation_form}
use Rattle.kt_types_tree.specs.Types.{TypeForm}

abbrev pub number_form : NumberType → NumberForm
number_form n = with_width (type_form n.shown) n.width

abbrev pub operated_form : OperatedTypes → OperandTypes
operated_form o = operands (type_form o.left) (type_form o.right) (operation_form o.operation)

abbrev pub right_form : TypeForm → RightType → OperandTypes
right_form s r = operands s (type_form r.shown.now) (operation_form r.operation)
