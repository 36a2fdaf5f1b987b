-- What is found and assigned, as the rules speak of it.
use Rattle.kt_typed.specs.Bodies.{expression_form}
use Rattle.kt_typed.specs.Operators.{local_form}
use Rattle.kt_check_deciding.specs.Statements.{Found, numbered, NewForm, new_form}
use Rattle.kt_check_locals.specs.declared.lookups.FoundLocal.{FoundLocal}
use Rattle.kt_check_locals.specs.declared.values.NewValue.{NewValue}

abbrev pub found_form : FoundLocal → Found
found_form l = numbered l.number (local_form l.local)

abbrev pub new_value_form : NewValue → NewForm
new_value_form n = new_form n.operator (expression_form n.value)
