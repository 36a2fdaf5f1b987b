-- What the machine throws by itself: class and message.
use Rattle.std.specs.Prelude.{ℕ, List, [], ◌∷◌, ◌++◌, codes, Option, Some, None}
use Rattle.std.specs.Fmt.{signed_decimal}
use Rattle.mach_value.specs.declared.values.Value.{Value}
use Rattle.mach_value.specs.declared.values.Value.TheVariants as v
use Rattle.mach_value.specs.declared.objects.Instance.{Instance}
use Rattle.mach_value.specs.declared.objects.Object.{Object}
use Rattle.mach_value.specs.declared.objects.Object.TheVariants as o
use Rattle.mach_value.specs.declared.objects.Phase.TheVariants.{Ready}
use Rattle.mach_value.specs.declared.heaps.Heap.{Heap}
use Rattle.mach_value.specs.Heaps.{address_behind}
use Rattle.mach_rows.specs.declared.throwing.Fault.{Fault}
use Rattle.mach_rows.specs.declared.throwing.Fault.TheVariants as fault

-- the class that is thrown
abbrev pub fault_class : Fault → List ℕ
fault_class fault.NullPointer = codes "java/lang/NullPointerException"
fault_class fault.NoMethod = codes "java/lang/IllegalStateException"
fault_class (fault.TextIndex i) = codes "java/lang/StringIndexOutOfBoundsException"
fault_class (fault.ArrayIndex i) = codes "java/lang/ArrayIndexOutOfBoundsException"
fault_class (fault.NegativeSize i) = codes "java/lang/NegativeArraySizeException"
fault_class fault.ZeroDivisor = codes "java/lang/ArithmeticException"
fault_class fault.FailedCast = codes "java/lang/ClassCastException"
fault_class fault.TextTooLong = codes "java/lang/IllegalArgumentException"
fault_class fault.NotShareable = codes "java/lang/IllegalArgumentException"
fault_class fault.Suspended = codes "java/lang/IllegalStateException"
fault_class fault.NotWaiting = codes "java/lang/IllegalStateException"
fault_class fault.AlreadyResumed = codes "java/lang/IllegalStateException"
fault_class fault.Done = codes "java/lang/IllegalStateException"

-- its number among the linked classes
abbrev pub fault_number : Fault → ℕ
fault_number fault.NullPointer = 12
fault_number fault.NoMethod = 9
fault_number (fault.TextIndex i) = 17
fault_number (fault.ArrayIndex i) = 16
fault_number (fault.NegativeSize i) = 14
fault_number fault.ZeroDivisor = 11
fault_number fault.FailedCast = 13
fault_number fault.TextTooLong = 10
fault_number fault.NotShareable = 10
fault_number fault.Suspended = 9
fault_number fault.NotWaiting = 9
fault_number fault.AlreadyResumed = 9
fault_number fault.Done = 9

-- its message
abbrev pub fault_message : Fault → Option (List ℕ)
fault_message fault.NullPointer = None
fault_message fault.NoMethod = None
fault_message (fault.TextIndex i) = Some (signed_decimal i)
fault_message (fault.ArrayIndex i) = Some (signed_decimal i)
fault_message (fault.NegativeSize i) = Some (signed_decimal i)
fault_message fault.ZeroDivisor = Some (codes "/ by zero")
fault_message fault.FailedCast = None
fault_message fault.TextTooLong = Some (codes "text too long")
fault_message fault.NotShareable = Some (codes "not shareable")
fault_message fault.Suspended = Some (codes "suspended")
fault_message fault.NotWaiting = Some (codes "not waiting")
fault_message fault.AlreadyResumed = Some (codes "Already resumed")
fault_message fault.Done = Some (codes "done")

abbrev pub thrown_instance : Fault → Instance
thrown_instance f = record { class = fault_class f; number = Some (fault_number f); phase = Ready; fields = [] }

-- the heap with one more object
abbrev pub with_made : Heap → Object → Heap
with_made heap object = record heap { objects = heap.objects ++ object ∷ [] }

-- a message is an object before the throwable

abbrev pub message_value : Option (List ℕ) → Heap → Value
message_value None heap = v.Null
message_value (Some message) heap = v.Ref (address_behind heap.objects)

abbrev pub with_message : Option (List ℕ) → Heap → Heap
with_message None heap = heap
with_message (Some message) heap = with_made heap (o.Text message)

abbrev pub with_throwable : Value → Fault → Heap → Heap
with_throwable message f heap = with_made heap (o.Throwable message (thrown_instance f))

-- the heap with the throwable of a fault, and its address
abbrev pub with_thrown : Fault → Heap → Heap
with_thrown f heap =
    with_throwable (message_value (fault_message f) heap) f (with_message (fault_message f) heap)

abbrev pub thrown_at : Fault → Heap → ℕ
thrown_at f heap = address_behind (with_message (fault_message f) heap).objects
