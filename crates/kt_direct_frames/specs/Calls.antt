-- What is called, and what is done with receivers and arguments.
use Rattle.std.specs.Prelude.{List, [], ◌∷◌, ◌++◌, map}
use Rattle.kt_base.specs.declared.events.Event.TheVariants as event
use Rattle.kt_typed.specs.Bodies.{expression_form, expressions_of}
use Rattle.kt_values.specs.Values.{Value}
use Rattle.kt_values.specs.Runs.{Run, ◌>>=◌, give, ask}
use Rattle.kt_meaning.specs.Activations as activations
use Rattle.kt_meaning.specs.Activations.{Activation, Called}
use Rattle.kt_meaning.specs.BuiltIns.{awaited, call_built_in, call_built_in_on}
use Rattle.kt_meaning.specs.Calls.{built_above, called_on, called_value, constructed}
use Rattle.kt_meaning.specs.Eval.{values_of}
use Rattle.kt_direct_values.specs.Forms.{value_form}
use Rattle.kt_direct_frames.specs.declared.calls.AfterArgument.{AfterArgument}
use Rattle.kt_direct_frames.specs.declared.calls.AfterArgument.TheVariants as after
use Rattle.kt_direct_frames.specs.declared.calls.CalledOn.{CalledOn}
use Rattle.kt_direct_frames.specs.declared.calls.CalledOn.TheVariants as on
use Rattle.kt_direct_frames.specs.declared.calls.CallKind.{CallKind}
use Rattle.kt_direct_frames.specs.declared.calls.CallKind.TheVariants as kind
use Rattle.kt_direct_frames.specs.declared.calls.DirectCalled.{DirectCalled}
use Rattle.kt_direct_frames.specs.declared.calls.DirectCalled.TheVariants as called
use Rattle.kt_direct_frames.specs.Operands.{received}
use Rattle.kt_direct_frames.specs.Results.{as_unit}

abbrev pub called_form : DirectCalled → Called
called_form (called.Function f) = activations.of_function f
called_form (called.Member c place x) = activations.of_member c place (value_form x)
called_form (called.Constructor c x) = activations.of_constructor c (value_form x)
called_form (called.Lambda n captures) = activations.of_lambda n (map value_form captures)
called_form (called.GeneratedEquals c x) = activations.generated_equals c (value_form x)
called_form (called.GeneratedToString c x) = activations.generated_to_string c (value_form x)

-- a call on a receiver, with its arguments
abbrev pub on_receiver_called : Activation → CalledOn → Value → List Value → Run Value
on_receiver_called here (on.Method c place) x arguments = called_on here c place x arguments
on_receiver_called here (on.BuiltInMethod m) x arguments = call_built_in_on here m x arguments
on_receiver_called here on.Value x arguments = called_value here x arguments

-- a call with its arguments
abbrev pub with_arguments : Activation → CallKind → List Value → Run Value
with_arguments here (kind.Function f) arguments = here.call (activations.of_function f) arguments
with_arguments here (kind.Constructor c) arguments = constructed here c arguments
with_arguments here (kind.BuiltIn b) arguments = call_built_in here b arguments
with_arguments here (kind.On what x) arguments = on_receiver_called here what (value_form x) arguments
with_arguments here kind.Superclass arguments = as_unit (built_above here arguments)

abbrev pub after_argument : Activation → AfterArgument → Value → Run Value
after_argument here (after.Receiver safe what es) x =
    received safe (λ x. values_of here [] (expressions_of (map expression_form es.now)) >>= on_receiver_called here what x) x
after_argument here (after.Argument done es what) x =
    values_of here (map value_form done.items ++ x ∷ []) (expressions_of (map expression_form es.now))
    >>= with_arguments here what
after_argument here (after.Built new) x = give (value_form new)
after_argument here (after.Await cell) x = ask (event.Await cell) >>= awaited here
