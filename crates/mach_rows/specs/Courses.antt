-- What a method without code does.
use Rattle.std.specs.Prelude.{ℕ, ℤ, pos, ◌%◌, ◌^◌, Bool, true, false, List}
use Rattle.std.specs.Prelude.{Option, Some, None, option_and_then}
use Rattle.std.specs.Int.{w32, cast_signed}
use Rattle.kt_base.specs.declared.lumps.Lump.{Lump}
use Rattle.kt_base.specs.declared.events.Event.{Event}
use Rattle.mach_value.specs.declared.values.Value.{Value}
use Rattle.mach_value.specs.declared.values.Value.TheVariants as v
use Rattle.mach_value.specs.declared.objects.Object.{Object}
use Rattle.mach_value.specs.declared.objects.Object.TheVariants as o
use Rattle.mach_value.specs.declared.heaps.Heap.{Heap}
use Rattle.mach_value.specs.Heaps.{object_at, address_behind}
use Rattle.mach_rows.specs.declared.throwing.Fault.{Fault}
use Rattle.mach_rows.specs.declared.throwing.Fault.TheVariants as fault
use Rattle.mach_rows.specs.declared.ends.NativeEnd.{NativeEnd}
use Rattle.mach_rows.specs.declared.ends.NativeEnd.TheVariants as end
use Rattle.mach_rows.specs.Throwing.{with_made, with_thrown, thrown_at}

pub data Course : Type 0 where
  gives : Value → Course
  -- it gives a new object
  makes : Object → Course
  -- it gives nothing, and leaves this heap
  leaves : Heap → Course
  -- it gives a value, and leaves this heap
  turns : Value → Heap → Course
  throws : Fault → Course
  ticks : Course
  asks : Event Lump → Course

-- how it ends
abbrev pub ended : Course → Heap → NativeEnd
ended (gives x) heap = end.Returns x
ended (makes object) heap = end.Returns (v.Ref (address_behind heap.objects))
ended (leaves new) heap = end.ReturnsNone
ended (turns x new) heap = end.Returns x
ended (throws f) heap = end.Throws (v.Ref (thrown_at f heap))
ended ticks heap = end.Ticks
ended (asks event) heap = end.Asks event

-- the heap then
abbrev pub after : Course → Heap → Heap
after (gives x) heap = heap
after (makes object) heap = with_made heap object
after (leaves new) heap = new
after (turns x new) heap = new
after (throws f) heap = with_thrown f heap
after ticks heap = heap
after (asks event) heap = heap

-- what a reference refers to

abbrev pub object_of : Heap → Value → Option Object
object_of heap (v.Ref a) = object_at heap.objects a
object_of heap (v.Int i) = None
object_of heap (v.Long i) = None
object_of heap v.Null = None

abbrev pub text_in : Object → Option (List ℕ)
text_in (o.Text t) = Some t
text_in _ = None

abbrev pub int_in : Object → Option ℤ
int_in (o.Int i) = Some i
int_in _ = None

abbrev pub long_in : Object → Option ℤ
long_in (o.Long i) = Some i
long_in _ = None

abbrev pub truth_in : Object → Option Bool
truth_in (o.Bool b) = Some b
truth_in _ = None

abbrev pub unit_in : Object → Option ℕ
unit_in (o.Char c) = Some c
unit_in _ = None

abbrev pub cell_in : Object → Option ℕ
cell_in (o.Cell c) = Some c
cell_in _ = None

abbrev pub message_in : Object → Option Value
message_in (o.Throwable message i) = Some message
message_in _ = None

abbrev pub held_in : {A : Type 0} → (Object → Option A) → Heap → Value → Option A
held_in kind heap x = option_and_then kind (object_of heap x)

-- null throws. So does what isn't of the kind, which no verified code passes

abbrev pub given : {A : Type 0} → Option A → (A → Course) → Course
given None go = throws fault.NullPointer
given (Some a) go = go a

abbrev pub as_int : Value → Option ℤ
as_int (v.Int i) = Some i
as_int (v.Long i) = None
as_int v.Null = None
as_int (v.Ref a) = None

abbrev pub as_long : Value → Option ℤ
as_long (v.Int i) = None
as_long (v.Long i) = Some i
as_long v.Null = None
as_long (v.Ref a) = None

abbrev pub on_int : Value → (ℤ → Course) → Course
on_int x go = given (as_int x) go

abbrev pub on_long : Value → (ℤ → Course) → Course
on_long x go = given (as_long x) go

-- values as results

abbrev pub truth : Bool → Course
truth true = gives (v.Int (pos 1))
truth false = gives (v.Int (pos 0))

-- the low 32 bits of a count
abbrev pub count : ℕ → Course
count n = gives (v.Int (cast_signed w32 (n % 2 ^ 32)))

abbrev pub makes_text : List ℕ → Course
makes_text t = makes (o.Text t)

-- another one that is there is the same
abbrev pub is_same : {A : Type 0} → (A → A → Bool) → A → Option A → Bool
is_same same a None = false
is_same same a (Some b) = same a b
