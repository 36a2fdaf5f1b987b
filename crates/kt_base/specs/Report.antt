-- What a finished run writes, and its status.
use Rattle.std.specs.Prelude.{ℕ, Bool, true, false, ◌==◌, if◌then◌else◌}
use Rattle.std.specs.Prelude.{List, [], ◌∷◌, ◌++◌, map, Option, None, Some, codes}
use Rattle.std.specs.List.{flat_map, list_any}
use Rattle.std.specs.Fmt.{decimal}
use Rattle.kt_base.specs.declared.lumps.Lump.{Lump}
use Rattle.kt_base.specs.declared.events.Event.{Event}
use Rattle.kt_base.specs.declared.events.Event.TheVariants as event
use Rattle.kt_base.specs.declared.events.End.TheVariants as end
use Rattle.kt_base.specs.declared.events.Halt.{Halt}
use Rattle.kt_base.specs.declared.events.Halt.TheVariants as halt
use Rattle.kt_base.specs.History.{History}
use Rattle.kt_base.specs.Text.{utf8_of}

-- a text and a line feed
abbrev pub line : List ℕ → List ℕ
line text = text ++ 10 ∷ []

-- what an event prints
abbrev pub printed : Event Lump → List ℕ
printed (event.Print text) = line (utf8_of text)
printed _ = []

-- all that was printed, in order
abbrev pub output_text : History → List ℕ
output_text [] = []
output_text (entry ∷ history) = output_text history ++ printed entry.asked

-- a class by its name in the language: `.` for the `/` of the class file
abbrev pub dotted : List ℕ → List ℕ
dotted name = map (λ byte. if byte == 47 then 46 else byte) name

-- why a coroutine didn't return, in words
abbrev pub reason : Halt → Option (List ℕ)
reason (halt.Ended end.Returned) = None
reason (halt.Ended (end.Uncaught class None)) = Some (dotted class)
reason (halt.Ended (end.Uncaught class (Some message))) = Some (dotted class ++ codes ": " ++ utf8_of message)
reason (halt.Ended end.TurnsSpent) = Some (codes "turns spent")
reason (halt.Ended end.NumbersSpent) = Some (codes "numbers spent")
reason (halt.Waits cell) = Some (codes "suspended on " ++ decimal cell)

-- a line for a coroutine that didn't return
abbrev pub reason_line : ℕ → Option (List ℕ) → List ℕ
reason_line n None = []
reason_line n (Some words) = line (codes "coroutine " ++ decimal n ++ codes ": " ++ words)

-- the report: a line for each coroutine that didn't return, in order
abbrev pub report : List (ℕ × Halt) → List ℕ
report halts = flat_map (λ h. reason_line h.0 (reason h.1)) halts

-- a limit was spent
abbrev pub is_spent : Halt → Bool
is_spent (halt.Ended end.TurnsSpent) = true
is_spent (halt.Ended end.NumbersSpent) = true
is_spent _ = false

-- an exception wasn't caught
abbrev pub is_uncaught : Halt → Bool
is_uncaught (halt.Ended (end.Uncaught class message)) = true
is_uncaught _ = false

-- a cell without an outcome is awaited
abbrev pub is_waiting : Halt → Bool
is_waiting (halt.Waits cell) = true
is_waiting _ = false

-- the status of a finished run: 5 spent, 3 uncaught, 4 stalled, 0 done; the first that holds of some coroutine
abbrev pub status_of : List (ℕ × Halt) → ℕ
status_of halts =
    if list_any (λ h. is_spent h.1) halts then 5
    else if list_any (λ h. is_uncaught h.1) halts then 3
    else if list_any (λ h. is_waiting h.1) halts then 4
    else 0
