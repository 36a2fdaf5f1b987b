-- What is done with values in statements.
use Rattle.std.specs.Prelude.{false, map, option_map}
use Rattle.kt_typed.specs.Bodies.{expression_form, maybe_expression, statement_form, statements_of}
use Rattle.kt_typed.specs.Headers.{class_parameter_form}
use Rattle.kt_values.specs.Values as v
use Rattle.kt_values.specs.Values.{Value}
use Rattle.kt_values.specs.Runs.{Run, ◌>>=◌, ◌>>◌, give}
use Rattle.kt_meaning.specs.Activations.{Activation}
use Rattle.kt_meaning.specs.Assignments as places
use Rattle.kt_meaning.specs.Assignments.{Place, read_place, write_place}
use Rattle.kt_meaning.specs.Calls.{initialized}
use Rattle.kt_meaning.specs.Eval.{act_all, value_of, value_of_maybe}
use Rattle.kt_meaning.specs.Operators.{applied, stepped}
use Rattle.kt_meaning.specs.Units.{all_stored}
use Rattle.kt_meaning.specs.Variables.{declared}
use Rattle.kt_direct_values.specs.Forms.{value_form}
use Rattle.kt_direct_frames.specs.declared.assignments.AfterStatement.{AfterStatement}
use Rattle.kt_direct_frames.specs.declared.assignments.AfterStatement.TheVariants as after
use Rattle.kt_direct_frames.specs.declared.assignments.Assigning.{Assigning}
use Rattle.kt_direct_frames.specs.declared.assignments.Assigning.TheVariants as assigning
use Rattle.kt_direct_frames.specs.declared.assignments.DirectPlace.{DirectPlace}
use Rattle.kt_direct_frames.specs.declared.assignments.DirectPlace.TheVariants as place
use Rattle.kt_direct_frames.specs.Results.{as_unit}

abbrev pub place_form : DirectPlace → Place
place_form (place.Local n) = places.in_local n
place_form (place.Captured n) = places.in_captured n
place_form (place.Property p x) = places.in_property p (value_form x)
place_form (place.Element x y) = places.in_element (value_form x) (value_form y)

-- what is done with a place
abbrev pub assigned : Activation → Assigning → Place → Run Value
assigned here (assigning.To e) p = as_unit (value_of here (expression_form e.now) >>= write_place here p)
assigned here (assigning.With o e) p =
    as_unit (read_place here p >>= λ old. value_of here (expression_form e.now) >>= λ y.
    applied here o false old y >>= write_place here p)
assigned here (assigning.Step o w) p =
    as_unit (read_place here p >>= λ old. stepped o w old >>= write_place here p)

abbrev pub after_statement : Activation → AfterStatement → Value → Run Value
after_statement here (after.Rest ss) x = as_unit (act_all here (statements_of (map statement_form ss.now)))
after_statement here (after.BlockValue e) x = value_of_maybe here (maybe_expression (option_map expression_form e.now))
after_statement here after.Discard x = give v.unit
after_statement here (after.Declare n) x = as_unit (declared here n x)
after_statement here (after.Initialize n) x = as_unit (initialized here n x)
after_statement here (after.TargetObject p a) x = assigned here a (places.in_property p x)
after_statement here (after.TargetArray i a) x =
    value_of here (expression_form i.now) >>= λ y. assigned here a (places.in_element x y)
after_statement here (after.TargetIndex array a) x = assigned here a (places.in_element (value_form array) x)
after_statement here (after.Write p) x = as_unit (write_place here (place_form p) x)
after_statement here (after.Update p o old) x =
    as_unit (applied here o false (value_form old) x >>= write_place here (place_form p))
after_statement here (after.Store ps arguments ss) x =
    as_unit (all_stored here (map class_parameter_form ps.now) (map value_form arguments.items)
    >> act_all here (statements_of (map statement_form ss.now)))
