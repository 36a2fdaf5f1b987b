-- Locals and captures. A captured `var` is an object of one slot, which the variable refers to.
use Rattle.std.specs.Prelude.{None, ℕ, Bool, true, false, List, [], ◌∷◌, ◌&&◌, ◌==◌, slice_get, slice_set}
use Rattle.std.specs.List.{list_any}
use Rattle.kt_typed.specs.declared.operators.CaptureSource.{CaptureSource}
use Rattle.kt_typed.specs.declared.operators.CaptureSource.TheVariants as source
use Rattle.kt_typed.specs.Operators.{CaptureForm}
use Rattle.kt_typed.specs.Bodies.{FunForm, fun}
use Rattle.kt_typed.specs.Order.{found_in_body, lambdas_among}
use Rattle.kt_values.specs.Values as v
use Rattle.kt_values.specs.Values.{Value, variable, values_of}
use Rattle.kt_values.specs.Runs.{Run, ◌>>=◌, ◌>>◌, gave, give, or_unfit, charge}
use Rattle.kt_values.specs.Heap.{make, read_slot, write_slot}
use Rattle.kt_meaning.specs.Activations.{Activation}

-- what stands in a local itself
abbrev pub local_slot : ℕ → Run Value
local_slot n s = or_unfit (slice_get s.variables n) s

abbrev pub set_local_slot : ℕ → Value → Run (Unit {0})
set_local_slot n new s = gave tt (record s { variables = slice_set s.variables n new })

-- the value of a variable
abbrev pub value_in : Value → Run Value
value_in (v.reference variable place) = read_slot (v.reference variable place) 0
value_in x = give x

abbrev pub read_local : ℕ → Run Value
read_local n = local_slot n >>= value_in

abbrev pub write_in : ℕ → Value → Value → Run (Unit {0})
write_in n new (v.reference variable place) = write_slot (v.reference variable place) 0 new
write_in n new _ = set_local_slot n new

abbrev pub write_local : ℕ → Value → Run (Unit {0})
write_local n new = local_slot n >>= write_in n new

abbrev pub read_captured : Activation → ℕ → Run Value
read_captured here n = or_unfit (slice_get here.captures n) >>= value_in

abbrev pub write_taken : Value → Value → Run (Unit {0})
write_taken new (v.reference variable place) = write_slot (v.reference variable place) 0 new
write_taken new _ = or_unfit None

abbrev pub write_captured : Activation → ℕ → Value → Run (Unit {0})
write_captured here n new = or_unfit (slice_get here.captures n) >>= write_taken new

abbrev pub declare_as : Bool → ℕ → Value → Run (Unit {0})
declare_as false n first = set_local_slot n first
declare_as true n first = make variable (first ∷ []) >>= set_local_slot n

-- a declaration makes the local's object, where it is captured as a `var`
abbrev pub declared : Activation → ℕ → Value → Run (Unit {0})
declared here n first = declare_as (here.is_shared n) n first

-- Lambdas.

-- the lambda captures this local as a `var`
abbrev pub is_taken : ℕ → CaptureSource → Bool
is_taken n (source.Local m) = n == m
is_taken n _ = false

abbrev pub takes : ℕ → FunForm → Bool
takes n (fun at suspends captures parameters locals result statements) =
    list_any (λ c. c.is_variable && is_taken n c.source) captures

-- some lambda of the body captures this local as a `var`
abbrev pub is_shared_in : FunForm → ℕ → Bool
is_shared_in f n = list_any (takes n) (lambdas_among (found_in_body f))

abbrev pub captured_from : Activation → CaptureSource → Run Value
captured_from here source.This = give here.receiver
captured_from here (source.Local n) = local_slot n
captured_from here (source.Captured n) = or_unfit (slice_get here.captures n)

-- what a lambda captures, in order
abbrev pub captured_all : Activation → List CaptureForm → Run (List Value)
captured_all here [] = give []
captured_all here (c ∷ cs) = do
  first ← captured_from here c.source
  rest ← captured_all here cs
  give (first ∷ rest)

-- a lambda literal takes a turn, and captures variables as they are now; of a `var` it captures the object
abbrev pub lambda_value : Activation → ℕ → FunForm → Run Value
lambda_value here n (fun at suspends captures parameters locals result statements) = do
  charge
  taken ← captured_all here captures
  give (v.closure n (values_of taken))

-- `this` in a lambda: its first capture, where that is one
abbrev pub receiver_in : List CaptureForm → List Value → Value
receiver_in [] taken = v.null
receiver_in (c ∷ cs) [] = v.null
receiver_in (c ∷ cs) (x ∷ xs) = if_this c.source x
  where
    if_this : CaptureSource → Value → Value
    if_this source.This x = x
    if_this _ x = v.null
