-- What is done with the value of an operand.
use Rattle.std.specs.Prelude.{Bool, true, false}
use Rattle.kt_types_tree.specs.Types.{type_form}
use Rattle.kt_typed.specs.declared.operators.TypedOperator.{TypedOperator}
use Rattle.kt_typed.specs.declared.operators.TypedOperator.TheVariants as operator
use Rattle.kt_typed.specs.Bodies.{expression_form}
use Rattle.kt_values.specs.Values as v
use Rattle.kt_values.specs.Values.{Value}
use Rattle.kt_values.specs.Runs.{Run, ◌>>=◌, give, throws, returns}
use Rattle.kt_meaning.specs.Activations.{Activation}
use Rattle.kt_meaning.specs.Access.{element, read_property}
use Rattle.kt_meaning.specs.Conditionals.{tested, unless_null}
use Rattle.kt_meaning.specs.Eval.{value_of}
use Rattle.kt_meaning.specs.Operators.{applied, if_false, if_null, if_true, prefixed}
use Rattle.kt_meaning.specs.Types.{asserted, cast_to}
use Rattle.kt_direct_values.specs.Forms.{value_form}
use Rattle.kt_direct_frames.specs.declared.operands.AfterOperand.{AfterOperand}
use Rattle.kt_direct_frames.specs.declared.operands.AfterOperand.TheVariants as after

-- what an operator does with its left operand, which may evaluate the right one
abbrev pub with_left : Activation → TypedOperator → Bool → Run Value → Value → Run Value
with_left here operator.Disjunction is_null right x = if_false right x
with_left here operator.Conjunction is_null right x = if_true right x
with_left here operator.Elvis is_null right x = if_null right x
with_left here o is_null right x = right >>= λ y. applied here o is_null x y

-- what is done with a receiver, behind `?.` where the first is true
abbrev pub received : Bool → (Value → Run Value) → Value → Run Value
received true go = unless_null go
received false go = go

abbrev pub after_operand : Activation → AfterOperand → Value → Run Value
after_operand here (after.Prefix o) x = prefixed o x
after_operand here (after.Left o is_null right) x = with_left here o is_null (value_of here (expression_form right.now)) x
after_operand here (after.Right o is_null left) x = applied here o is_null (value_form left) x
after_operand here (after.Test not t) x = give (v.truth (tested here.unit not (type_form t.now) x))
after_operand here (after.Cast or_null t) x = cast_to here.unit or_null (type_form t.now) x
after_operand here after.NotNull x = asserted x
after_operand here (after.Index i) x = value_of here (expression_form i.now) >>= element x
after_operand here (after.Element array) x = element (value_form array) x
after_operand here (after.Property safe p) x = received safe (read_property here.unit p) x
after_operand here after.Throw x = throws x
after_operand here after.Return x = returns x
