-- What happened in a run so far, and what an event is answered.
use Rattle.std.specs.Prelude.{ℕ, ◌+◌, nat_lt, Bool, false, ◌||◌, ◌==◌, if◌then◌else◌}
use Rattle.std.specs.Prelude.{List, [], ◌∷◌, Option, None, Some, option_map, is_some}
use Rattle.kt_base.specs.declared.lumps.Lump.{Lump}
use Rattle.kt_base.specs.declared.events.Fate.{Fate}
use Rattle.kt_base.specs.declared.events.Event.{Event}
use Rattle.kt_base.specs.declared.events.Event.TheVariants as event
use Rattle.kt_base.specs.declared.events.Answer.{Answer}
use Rattle.kt_base.specs.declared.events.Answer.TheVariants as answer

-- one atomic step of a run: a coroutine asked, and was answered
pub record Entry : Type 0 where
  pub coroutine : ℕ
  pub asked : Event Lump
  pub answered : Answer Lump

-- the steps of a run so far, the latest first
abbrev pub History : Type 0
History = List Entry

-- the number that an entry drew
abbrev pub number_in : Answer Lump → Option ℕ
number_in (answer.Number n) = Some n
number_in _ = None

-- how many numbers are drawn; `main` has the first, 0
abbrev pub numbers_drawn : History → ℕ
numbers_drawn [] = 1
numbers_drawn (entry ∷ history) = (if is_some (number_in entry.answered) then 1 else 0) + numbers_drawn history

-- the entry drew this number for a cell
abbrev pub draws_cell : Event Lump → Answer Lump → ℕ → Bool
draws_cell event.Draw (answer.Number drawn) n = drawn == n
draws_cell _ _ n = false

-- the number was drawn for a cell
abbrev pub is_cell : History → ℕ → Bool
is_cell [] n = false
is_cell (entry ∷ history) n = draws_cell entry.asked entry.answered n || is_cell history n

-- the outcome that an entry gave to this cell
abbrev pub outcome_in : Event Lump → Answer Lump → ℕ → Option (Fate Lump)
outcome_in (event.Resume cell fate) answer.Won n = if cell == n then Some fate else None
outcome_in _ _ n = None

-- the outcome of a cell: that of the resume which won
abbrev pub outcome_of : History → ℕ → Option (Fate Lump)
outcome_of [] n = None
outcome_of (entry ∷ history) n =
    if is_some (outcome_in entry.asked entry.answered n)
    then outcome_in entry.asked entry.answered n
    else outcome_of history n

-- the answer to a draw: the next number, where numbers are left
abbrev pub draw_answer : ℕ → History → Answer Lump
draw_answer numbers history =
    if nat_lt (numbers_drawn history) numbers then answer.Number (numbers_drawn history) else answer.Full

-- the answer to an event after a history, in a run that may draw so many numbers; none where the event has to wait,
-- or names a cell that nobody drew
abbrev pub reply : ℕ → History → Event Lump → Option (Answer Lump)
reply numbers history (event.Print text) = Some answer.Done
reply numbers history (event.Launch body) = Some (draw_answer numbers history)
reply numbers history event.Draw = Some (draw_answer numbers history)
reply numbers history (event.Resume cell fate) =
    if is_cell history cell then Some (if is_some (outcome_of history cell) then answer.Lost else answer.Won) else None
reply numbers history (event.Await cell) = option_map answer.Outcome (outcome_of history cell)
