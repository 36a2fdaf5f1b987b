-- The world of a list of scheduling choices: which coroutine takes the next step, choice after choice.
use Rattle.std.specs.Prelude.{◌≡◌, ℕ, List, [], ◌∷◌, ◌++◌, Option, None, Some, option_and_then, option_map}
use Rattle.std.specs.Prelude.{option_to_list, IsSome, ⊤, ◌==◌, if◌then◌else◌}
use Rattle.std.specs.List.Sorted.{IsStrictlyIncreasing}
use Rattle.kt_base.specs.declared.lumps.Lump.{Lump}
use Rattle.kt_base.specs.declared.events.Event.{Event}
use Rattle.kt_base.specs.declared.events.Event.TheVariants as event
use Rattle.kt_base.specs.declared.events.Answer.{Answer}
use Rattle.kt_base.specs.declared.events.Answer.TheVariants as answer
use Rattle.kt_base.specs.declared.events.End.{End}
use Rattle.kt_base.specs.declared.events.Halt.{Halt}
use Rattle.kt_base.specs.declared.events.Halt.TheVariants as halt
use Rattle.kt_base.specs.declared.events.Start.{Start}
use Rattle.kt_base.specs.declared.events.Start.TheVariants as start
use Rattle.kt_base.specs.History.{Entry, History, reply}
use Rattle.kt_base.specs.Meaning.{Program, next_event}

-- the coroutine that an entry started, with what was handed over
abbrev pub launch_in : Event Lump → Answer Lump → Option (ℕ × Lump)
launch_in (event.Launch body) (answer.Number n) = Some (n, body)
launch_in _ _ = None

-- the start of coroutine n: that of this launch, or an earlier one
abbrev pub start_at : Option (ℕ × Lump) → ℕ → Option Start → Option Start
start_at None n earlier = earlier
start_at (Some launch) n earlier = if launch.0 == n then Some (start.Launched launch.1) else earlier

-- how a coroutine began, where it is `main` or was launched
abbrev pub start_of : History → ℕ → Option Start
start_of [] n = if n == 0 then Some start.Main else None
start_of (entry ∷ history) n = start_at (launch_in entry.asked entry.answered) n (start_of history n)

-- the coroutines: `main`, then each that was launched; in a legal history they are in ascending order
abbrev pub coroutines : History → List ℕ
coroutines [] = 0 ∷ []
coroutines (entry ∷ history) =
    coroutines history ++ option_to_list (option_map (λ launch. launch.0) (launch_in entry.asked entry.answered))

-- what a coroutine was answered, in order
abbrev pub answers_of : ℕ → History → List (Answer Lump)
answers_of n [] = []
answers_of n (entry ∷ history) = answers_of n history ++ (if entry.coroutine == n then entry.answered ∷ [] else [])

-- a step of a coroutine: its next event with the reply, if it began and both are there
abbrev pub step : Program → ℕ → History → ℕ → Option Entry
step program numbers history n =
    option_and_then (λ start.
    option_and_then (λ asked.
    option_map (λ answered. record { coroutine = n; asked = asked; answered = answered })
    (reply numbers history asked))
    (next_event program start (answers_of n history)))
    (start_of history n)

-- the history after further choices, none where one of them can't take a step
abbrev pub played : Program → ℕ → History → List ℕ → Option History
played program numbers history [] = Some history
played program numbers history (n ∷ choices) =
    option_and_then (λ entry. played program numbers (entry ∷ history) choices) (step program numbers history n)

-- the world of a list of choices, under the number of numbers that may be drawn
abbrev pub world : Program → ℕ → List ℕ → Option History
world program numbers choices = played program numbers [] choices

-- the history is legal: each entry is of a coroutine that had begun, and its answer is the reply
abbrev pub IsLegal : ℕ → History → Type 0
IsLegal numbers [] = ⊤
IsLegal numbers (entry ∷ history) =
    IsSome (start_of history entry.coroutine)
    × (reply numbers history entry.asked ≡ Some entry.answered)
    × IsLegal numbers history

-- how a coroutine stands that can take no further step: it has ended, or awaits a cell without an outcome
abbrev pub stands : Option End → Option (Event Lump) → Option (Answer Lump) → Option Halt
stands (Some end) asked answered = Some (halt.Ended end)
stands None (Some (event.Await cell)) None = Some (halt.Waits cell)
stands _ _ _ = None

-- how coroutine n stands after a history, where it can't go on
abbrev pub halt_of : Program → ℕ → History → ℕ → Option Halt
halt_of program numbers history n = option_and_then (λ start.
    let answers = answers_of n history in
    let asked = next_event program start answers in
    stands (program start answers).end asked (option_and_then (reply numbers history) asked)) (start_of history n)

-- the coroutines stand so, each with its number
abbrev pub AllStand : Program → ℕ → History → List ℕ → List (ℕ × Halt) → Type 0
AllStand program numbers history [] [] = ⊤
AllStand program numbers history (n ∷ ns) (h ∷ hs) =
    (h.0 ≡ n) × (halt_of program numbers history n ≡ Some h.1) × AllStand program numbers history ns hs
AllStand program numbers history _ _ = ⊥

-- the world is final: no coroutine of it can go on, and they stand so, in ascending order
abbrev pub IsFinal : Program → ℕ → History → List (ℕ × Halt) → Type 0
IsFinal program numbers history halts = AllStand program numbers history (coroutines history) halts

-- what choices play after a legal history is legal
abbrev pub PlaysLegally : Type 0
PlaysLegally =
    (program : Program) (numbers : ℕ) (choices : List ℕ) (history : History)
    → world program numbers choices ≡ Some history → IsLegal numbers history

-- the coroutines of a legal history are in ascending order, none of them twice
abbrev pub CoroutinesAscend : Type 0
CoroutinesAscend =
    (numbers : ℕ) (history : History) → IsLegal numbers history → IsStrictlyIncreasing (coroutines history)
