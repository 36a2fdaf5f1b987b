-- The methods of `kt/rt/Cells` and of `kt/rt/Out`: what a coroutine asks.
use Rattle.std.specs.Prelude.{◌≡◌, ℕ, Bool, true, false, ◌||◌, ◌==◌, if◌then◌else◌, List, Option, Some, None, is_some, position, remove}
use Rattle.std.specs.List.{list_any}
use Rattle.kt_base.specs.declared.lumps.Lump.{Lump}
use Rattle.kt_base.specs.declared.events.Event.{Event}
use Rattle.kt_base.specs.declared.events.Event.TheVariants as event
use Rattle.kt_base.specs.declared.events.Fate.TheVariants as fate
use Rattle.mach_value.specs.declared.values.Value.{Value}
use Rattle.mach_value.specs.declared.values.Value.TheVariants as v
use Rattle.mach_value.specs.declared.heaps.Heap.{Heap}
use Rattle.mach_value.specs.Exports.{IsLump, HasNoLump}
use Rattle.mach_rows.specs.declared.throwing.Fault.{Fault}
use Rattle.mach_rows.specs.declared.throwing.Fault.TheVariants as fault
use Rattle.mach_rows.specs.declared.sending.Sending.{Sending}
use Rattle.mach_rows.specs.declared.sending.Sending.TheVariants as sending
use Rattle.mach_rows.specs.declared.ends.NativeEnd.{NativeEnd}
use Rattle.mach_rows.specs.declared.ends.NativeEnd.TheVariants as end
use Rattle.mach_rows.specs.Courses.{Course, ended, after, gives, turns, throws, asks, held_in, cell_in, text_in, given}
use Rattle.mach_rows.specs.Objects.{as_reference}

abbrev pub is_null : Value → Bool
is_null (v.Int i) = false
is_null (v.Long i) = false
is_null v.Null = true
is_null (v.Ref a) = false

-- what comes before all else: an argument that is null, then a note that stands, so that the coroutine is to wait
abbrev pub asking_fault : Bool → Heap → Option Fault
asking_fault null heap =
    if null then Some fault.NullPointer else (if is_some heap.note then Some fault.Suspended else None)

abbrev pub unless : Option Fault → Course → Course
unless None go = go
unless (Some fault) go = throws fault

abbrev pub out_println : Heap → Value → Course
out_println heap x =
    unless (asking_fault (is_null x) heap) (given (held_in text_in heap x) (λ t. asks (event.Print t)))

abbrev pub cells_make : Heap → Course
cells_make heap = unless (asking_fault false heap) (asks event.Draw)

-- the cells without the first of this number
abbrev pub without_at : Option ℕ → List ℕ → List ℕ
without_at None cells = cells
without_at (Some at) cells = remove cells at

abbrev pub without : ℕ → List ℕ → List ℕ
without c cells = without_at (position (λ d. d == c) cells) cells

abbrev pub noting : ℕ → ℕ → Heap → Heap
noting c k heap = record heap {
  note = Some (record { cell = c; continuation = k });
  awaitable = without c heap.awaitable;
}

-- the coroutine is to wait for a cell that it drew and hasn't awaited yet
abbrev pub waits : Heap → ℕ → ℕ → Course
waits heap k c =
    if list_any (λ d. d == c) heap.awaitable then turns (v.Ref 1) (noting c k heap) else throws fault.NotWaiting

abbrev pub cells_await : Heap → Value → Value → Course
cells_await heap x y =
    unless (asking_fault (is_null x || is_null y) heap)
    (given (held_in cell_in heap x) (λ c. given (as_reference y) (λ k. waits heap k c)))

abbrev pub cells_suspended : Course
cells_suspended = gives (v.Ref 1)

-- what goes to another coroutine

abbrev pub sent_event : Sending → Lump → Event Lump
sent_event sending.Launch lump = event.Launch lump
sent_event (sending.Value c) lump = event.Resume c (fate.Value lump)
sent_event (sending.Thrown c) lump = event.Resume c (fate.Thrown lump)

-- what a method does that may ask about the lump of a value; where the value has none, that is thrown
pub data Row : Type 0 where
  does : Course → Row
  sends : Sending → Value → Row

abbrev pub Sent : Sending → Value → Heap → NativeEnd → Heap → Type 0
Sent how x old (end.Asks asked) new =
    (lump : Lump) × IsLump old.objects x lump × (asked ≡ sent_event how lump) × (new ≡ old)
Sent how x old (end.Throws y) new =
    HasNoLump old.objects x × (end.Throws y ≡ ended (throws fault.NotShareable) old)
    × (new ≡ after (throws fault.NotShareable) old)
Sent how x old (end.Returns y) new = ⊥
Sent how x old end.ReturnsNone new = ⊥
Sent how x old end.Ticks new = ⊥

-- how a row ends, and the heap then
unfoldable pub Comes : Row → Heap → NativeEnd → Heap → Type 0
Comes (does course) old e new = (e ≡ ended course old) × (new ≡ after course old)
Comes (sends how x) old e new = Sent how x old e new

abbrev pub unless_row : Option Fault → Row → Row
unless_row None go = go
unless_row (Some fault) go = does (throws fault)

abbrev pub cells_launch : Heap → Value → Row
cells_launch heap x = unless_row (asking_fault (is_null x) heap) (sends sending.Launch x)

abbrev pub on_cell : Option ℕ → (ℕ → Row) → Row
on_cell None go = does (throws fault.NullPointer)
on_cell (Some c) go = go c

abbrev pub cells_resume : Heap → Value → Value → Row
cells_resume heap x y =
    unless_row (asking_fault (is_null x) heap) (on_cell (held_in cell_in heap x) (λ c. sends (sending.Value c) y))

abbrev pub cells_fail : Heap → Value → Value → Row
cells_fail heap x y =
    unless_row (asking_fault (is_null x || is_null y) heap)
    (on_cell (held_in cell_in heap x) (λ c. sends (sending.Thrown c) y))
