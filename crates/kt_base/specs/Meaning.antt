-- What one coroutine does, whatever language it is written in.
use Rattle.std.specs.Prelude.{◌≡◌, List, length, Option, slice_get, is_some, not}
use Rattle.kt_base.specs.declared.lumps.Lump.{Lump}
use Rattle.kt_base.specs.declared.events.Event.{Event}
use Rattle.kt_base.specs.declared.events.Answer.{Answer}
use Rattle.kt_base.specs.declared.events.End.{End}
use Rattle.kt_base.specs.declared.events.Start.{Start}

-- what a coroutine does on the answers that it has: its events, up to the first that has no answer, and how it ended,
-- which is absent exactly where there is such an event
pub record Course : Type 0 where
  pub events : List (Event Lump)
  pub end : Option End

-- the meaning of a program: what a coroutine does from its start, on its answers in order
abbrev pub Program : Type 0
Program = Start → List (Answer Lump) → Course

-- the event that waits for an answer
abbrev pub next_event : Program → Start → List (Answer Lump) → Option (Event Lump)
next_event program start answers = slice_get (program start answers).events (length answers)

-- each course of the program is whole: it has an end exactly where no event waits for an answer
abbrev pub IsWhole : Program → Type 0
IsWhole program =
    (start : Start) (answers : List (Answer Lump))
    → is_some (program start answers).end ≡ not (is_some (next_event program start answers))
