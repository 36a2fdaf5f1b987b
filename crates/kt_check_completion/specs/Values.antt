-- Values that conditions name.
use Rattle.std.specs.Prelude.{Bool, false}
use Rattle.kt_typed.specs.Bodies.{ExpressionForm, ConditionForm, equals, holds, of_type}
use Rattle.kt_check_rules.specs.Completion.{is_truth, is_null_literal, is_entry}
use Rattle.kt_check_completion.specs.declared.entries.Value.{Value}
use Rattle.kt_check_completion.specs.declared.entries.Value.TheVariants as value

-- whether an expression is the value
abbrev pub names_value : Value → ExpressionForm → Bool
names_value (value.Truth b) e = is_truth b e
names_value value.Null e = is_null_literal e
names_value (value.Entry row n) e = is_entry row n e

abbrev pub condition_names : (ExpressionForm → Bool) → ConditionForm → Bool
condition_names test (equals e) = test e
condition_names test (holds e) = false
condition_names test (of_type b t) = false
