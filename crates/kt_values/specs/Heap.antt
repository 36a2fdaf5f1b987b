-- Objects are made, read and written; and what the language throws is made.
use Rattle.std.specs.Prelude.{ℕ, List, [], ◌∷◌, ◌++◌, length, slice_get, slice_set, Option, Some, None, option_and_then}
use Rattle.kt_values.specs.Values as v
use Rattle.kt_values.specs.Values.{Value, Shape, Object, instance, variable}
use Rattle.kt_values.specs.Throwables.{Fault, fault_class, fault_message}
use Rattle.kt_values.specs.Runs.{Run, gave, ◌>>=◌, ◌>>◌, throws, or_unfit}

-- a new object, behind all others
abbrev pub make : Shape → List Value → Run Value
make shape slots s =
    gave (v.reference shape (length s.heap))
    (record s { heap = s.heap ++ record { shape = shape; slots = slots } ∷ [] })

-- the object of a reference
abbrev pub object_of : List Object → Value → Option Object
object_of heap (v.reference shape place) = slice_get heap place
object_of heap _ = None

-- what stands in a slot of an object
abbrev pub read_slot : Value → ℕ → Run Value
read_slot x slot s = or_unfit (option_and_then (λ o. slice_get o.slots slot) (object_of s.heap x)) s

-- the heap with another value in a slot
abbrev pub heap_with : List Object → ℕ → Object → ℕ → Value → List Object
heap_with heap place o slot new =
    slice_set heap place (record { shape = o.shape; slots = slice_set o.slots slot new })

abbrev pub write_at : ℕ → Object → ℕ → Value → Run (Unit {0})
write_at place o slot new s = gave tt (record s { heap = heap_with s.heap place o slot new })

abbrev pub write_slot : Value → ℕ → Value → Run (Unit {0})
write_slot (v.reference shape place) slot new s =
    (or_unfit (slice_get s.heap place) >>= λ o.
    or_unfit (slice_get o.slots slot) >> write_at place o slot new) s
write_slot _ slot new s = or_unfit None s

-- a text, or null
abbrev pub text_or_null : Option (List ℕ) → Value
text_or_null None = v.null
text_or_null (Some t) = v.text t

-- a fault's exception is made and thrown
abbrev pub raise : {A : Type 0} → Fault → Run A
raise fault =
    make (instance (fault_class fault)) (text_or_null (fault_message fault) ∷ []) >>= λ x. throws x
