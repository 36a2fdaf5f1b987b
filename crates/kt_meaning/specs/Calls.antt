-- Calls (Kotlin specification, "Call and property access expressions"): the receiver first, then the arguments from
-- left to right. Entering a body takes a turn.
use Rattle.std.specs.Prelude.{ℕ, ◌+◌, Bool, true, false, List, [], ◌∷◌, length, map, Option, Some, None, option_and_then, slice_get}
use Rattle.kt_typed.specs.Headers.{FunctionForm}
use Rattle.kt_values.specs.Values as v
use Rattle.kt_values.specs.Values.{Value, instance, listed}
use Rattle.kt_values.specs.Runs.{Run, ◌>>=◌, ◌>>◌, give, or_unfit}
use Rattle.kt_values.specs.Heap.{make, write_slot}
use Rattle.kt_meaning.specs.Activations.{Activation, of_member, of_constructor, of_lambda}
use Rattle.kt_meaning.specs.Classes.{class_at, superclass_of, is_built_in, all_properties, first_slot, blank, body_for}

-- a new object of a class of the file: it is made behind its arguments, then its constructor runs
abbrev pub constructed : Activation → ℕ → List Value → Run Value
constructed here c arguments = do
  x ← make (instance c) (map (λ p. blank p.annotation) (all_properties here.unit c))
  here.call (of_constructor c x) arguments
  give x

-- the message of a throwable that is built with these arguments
abbrev pub message_of : List Value → Option Value
message_of [] = Some v.null
message_of (x ∷ []) = Some x
message_of _ = None

-- a new throwable of a class that every file has
abbrev pub built_throwable : ℕ → List Value → Run Value
built_throwable c arguments = or_unfit (message_of arguments) >>= λ x. make (instance c) (x ∷ [])

abbrev pub run_superclass : Activation → Bool → ℕ → List Value → Run (Unit {0})
run_superclass here true c arguments = or_unfit (message_of arguments) >>= write_slot here.receiver 0
run_superclass here false c arguments = here.call (of_constructor c here.receiver) arguments >> give tt

-- the constructor of the superclass runs on the object that is being built
abbrev pub built_above : Activation → List Value → Run (Unit {0})
built_above here arguments =
    or_unfit (superclass_of here.unit here.class) >>= λ c. run_superclass here (is_built_in c) c arguments

-- a property of the object that is being built, by its place in its class, gets its first value
abbrev pub initialized : Activation → ℕ → Value → Run (Unit {0})
initialized here place first = write_slot here.receiver (first_slot here.unit here.class + place) first

-- the declaration of a function of a class
abbrev pub declaration : Activation → ℕ → ℕ → Option FunctionForm
declaration here c place = option_and_then (λ k. slice_get k.functions place) (class_at here.unit c)

-- the body that the class of a value has for a function
abbrev pub body_on : Activation → FunctionForm → Value → Option (ℕ × ℕ)
body_on here f (v.reference (instance d) place) = body_for here.unit f.name (length f.parameters) d
body_on here f _ = None

-- a call of a function of a class: the class of the object decides which body runs
abbrev pub called_on : Activation → ℕ → ℕ → Value → List Value → Run Value
called_on here c place x arguments = do
  f ← or_unfit (declaration here c place)
  body ← or_unfit (body_on here f x)
  here.call (of_member body.0 body.1 x) arguments

-- a call of a value of function type
abbrev pub called_value : Activation → Value → List Value → Run Value
called_value here (v.closure n captures) arguments = here.call (of_lambda n (listed captures)) arguments
called_value here _ arguments = or_unfit None
