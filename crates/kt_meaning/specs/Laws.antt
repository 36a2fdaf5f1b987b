-- Laws of the meaning of units.
use Rattle.std.specs.Prelude.{◌≡◌, ℕ, List}
use Rattle.kt_base.specs.declared.lumps.Lump.{Lump}
use Rattle.kt_base.specs.declared.events.Answer.{Answer}
use Rattle.kt_base.specs.declared.events.Start.{Start}
use Rattle.kt_base.specs.Meaning.{IsWhole}
use Rattle.kt_typed.specs.Units.{UnitForm}
use Rattle.kt_values.specs.Runs.{World, stopped, bound_met}
use Rattle.kt_meaning.specs.Units.{direct, run_from, fresh}

-- each course of a unit is whole: it has an end exactly where no event waits for an answer
abbrev pub CoursesAreWhole : Type 0
CoursesAreWhole = (u : UnitForm) (turns : ℕ) → IsWhole (direct u turns)

-- no run stops because calls went too deep or a loop made too many turns: its turns are spent before
abbrev pub BoundIsNeverMet : Type 0
BoundIsNeverMet =
    (u : UnitForm) (turns : ℕ) (start : Start) (answers : List (Answer Lump)) (w : World) →
    run_from u turns start (fresh answers turns) ≡ stopped bound_met w → ⊥
