-- Assignments (Kotlin specification, "Assignments"): what is assigned to, with its receiver and its index evaluated
-- once.
use Rattle.std.specs.Prelude.{ℕ}
use Rattle.kt_typed.specs.declared.operators.TypedProperty.{TypedProperty}
use Rattle.kt_values.specs.Values.{Value}
use Rattle.kt_values.specs.Runs.{Run}
use Rattle.kt_meaning.specs.Activations.{Activation}
use Rattle.kt_meaning.specs.Variables.{read_local, write_local, read_captured, write_captured}
use Rattle.kt_meaning.specs.Access.{read_property, write_property, element, put_element}

pub data Place : Type 0 where
  in_local : ℕ → Place
  in_captured : ℕ → Place
  -- of this object
  in_property : TypedProperty → Value → Place
  -- of this array, at this index
  in_element : Value → Value → Place

abbrev pub read_place : Activation → Place → Run Value
read_place here (in_local n) = read_local n
read_place here (in_captured n) = read_captured here n
read_place here (in_property p x) = read_property here.unit p x
read_place here (in_element x y) = element x y

abbrev pub write_place : Activation → Place → Value → Run (Unit {0})
write_place here (in_local n) new = write_local n new
write_place here (in_captured n) new = write_captured here n new
write_place here (in_property p x) new = write_property here.unit p x new
write_place here (in_element x y) new = put_element x y new
