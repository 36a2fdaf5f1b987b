-- What code answers is how the run ends.
use Rattle.std.specs.Prelude.{◌≡◌, [], ◌∷◌, Result, Ok, Err}
use Rattle.kt_direct_values.specs.declared.values.DirectValue.{DirectValue}
use Rattle.kt_direct_values.specs.declared.ends.Abrupt.{Abrupt}
use Rattle.kt_direct_values.specs.declared.ends.Abrupt.TheVariants as ends
use Rattle.kt_direct_values.specs.Forms.{value_form, stop_form}
use Rattle.kt_values.specs.Values.{Value, instance}
use Rattle.kt_values.specs.Throwables.{Fault, fault_class, fault_message}
use Rattle.kt_values.specs.Heap.{make, text_or_null}
use Rattle.kt_values.specs.Runs.{Store, Gives, gave, thrown, returned, broken, continued, stopped}

-- an end without a value, and the store behind it. Want of memory says nothing
abbrev pub Fails : {A : Type 0} → Abrupt → Store → Gives A → Type 0
Fails ends.NoMemory s g = Unit {0}
Fails (ends.Thrown x) s g = g ≡ thrown (value_form x) s
Fails (ends.Returned x) s g = g ≡ returned (value_form x) s
Fails ends.Broken s g = g ≡ broken s
Fails ends.Continued s g = g ≡ continued s
Fails (ends.Stopped why) s g = g ≡ stopped (stop_form why) s.world

-- a value, as it is seen
abbrev pub Agrees : {A B : Type 0} → (A → B) → Result A Abrupt → Store → Gives B → Type 0
Agrees view (Ok a) s g = g ≡ gave (view a) s
Agrees view (Err x) s g = Fails x s g

abbrev pub AgreesValue : Result DirectValue Abrupt → Store → Gives Value → Type 0
AgreesValue r s g = Agrees value_form r s g

-- nothing but the store
abbrev pub AgreesDone : Result (Unit {0}) Abrupt → Store → Gives (Unit {0}) → Type 0
AgreesDone r s g = Agrees (λ u. u) r s g

-- what contracts see as it is
abbrev pub AgreesSame : {A : Type 0} → Result A Abrupt → Store → Gives A → Type 0
AgreesSame r s g = Agrees (λ a. a) r s g

-- the exception of a fault is made and thrown
abbrev pub Raises : Fault → Abrupt → Store → Store → Type 0
Raises fault ends.NoMemory s after = Unit {0}
Raises fault (ends.Thrown x) s after =
    make (instance (fault_class fault)) (text_or_null (fault_message fault) ∷ []) s ≡ gave (value_form x) after
Raises fault _ s after = ⊥
