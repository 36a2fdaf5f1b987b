-- The meaning of a program of the first subset, and how a run of it ends.
use Rattle.std.specs.Prelude.{◌≡◌, ℕ, ℤ, List, [], ◌∷◌, None, Some}
use Rattle.std.specs.Fmt.{signed_decimal}
use Rattle.std.specs.List.{flat_map}
use Rattle.std.specs.Str.{chars}
use Rattle.kt_base.specs.declared.lumps.Lump.{Lump}
use Rattle.kt_base.specs.declared.events.Event.{Event}
use Rattle.kt_base.specs.declared.events.Event.TheVariants as event
use Rattle.kt_base.specs.declared.events.Answer.{Answer}
use Rattle.kt_base.specs.declared.events.End.TheVariants as end
use Rattle.kt_base.specs.declared.events.Halt.{Halt}
use Rattle.kt_base.specs.Text.{utf16_of}
use Rattle.kt_base.specs.History.{History}
use Rattle.kt_base.specs.Meaning.{Course, Program}
use Rattle.kt_base.specs.World.{world, IsFinal}
use Rattle.kt_base.specs.Report.{printed, output_text, report, status_of}
use Rattle.kt_first.specs.Programs.{values_of}
use Rattle.kt_first.specs.Programs as first
use Rattle.kt_first.specs.Trees.{IsFirst}

-- a number is printed in decimal
abbrev pub print_of : ℤ → Event Lump
print_of n = event.Print (utf16_of (chars (signed_decimal n)))

-- all that is printed
abbrev pub text_of : List ℤ → List ℕ
text_of values = flat_map (λ n. printed (print_of n)) values

-- the values are printed one after the other, each when the one before it has been; then `main` returns
abbrev pub course_of : List ℤ → List (Answer Lump) → Course
course_of [] answers = record { events = []; end = Some end.Returned }
course_of (n ∷ values) [] = record { events = print_of n ∷ []; end = None }
course_of (n ∷ values) (answer ∷ answers) =
    record { events = print_of n ∷ (course_of values answers).events; end = (course_of values answers).end }

-- the meaning of a program that prints these values: nothing is launched, so that the start is always that of `main`,
-- and at most 512 steps spend few of the 10,000,000 turns of a coroutine
abbrev pub meaning_of : List ℤ → Program
meaning_of values start answers = course_of values answers

-- how many numbers a run may draw
abbrev pub numbers : ℕ
numbers = 262144

-- Read directly, the source does this under these choices: its world is defined and final, its text, report and status
-- are these.
pub record Ends (source choices text told : List ℕ) (status : ℕ) : Type 0 where
  pub program : first.Program
  pub history : History
  pub halts : List (ℕ × Halt)
  pub source_is : IsFirst source program
  pub played : world (meaning_of (values_of program)) numbers choices ≡ Some history
  pub final : IsFinal (meaning_of (values_of program)) numbers history halts
  pub text_is : text ≡ output_text history
  pub report_is : told ≡ report halts
  pub status_is : status ≡ status_of halts

-- the source is a text of the first subset
abbrev pub IsOfFirst : List ℕ → Type 0
IsOfFirst source = (program : first.Program) × IsFirst source program
