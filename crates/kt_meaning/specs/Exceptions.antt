-- `try` (Kotlin specification, "Try-expressions"): the first `catch` that fits is taken, and `finally` runs on every
-- exit. A `finally` that leaves abruptly replaces the earlier outcome; one that ends normally leaves it.
use Rattle.std.specs.Prelude.{ℕ, Bool, false}
use Rattle.kt_typed.specs.Units.{UnitForm}
use Rattle.kt_values.specs.Values as v
use Rattle.kt_values.specs.Values.{Value, instance}
use Rattle.kt_values.specs.Runs.{Run, Gives, gave, thrown, returned, broken, continued, stopped, then_do}
use Rattle.kt_meaning.specs.Classes.{is_below}

-- the thrown object is of the class, or of one below
abbrev pub fits_catch : UnitForm → ℕ → Value → Bool
fits_catch u class (v.reference (instance c) place) = is_below u c class
fits_catch u class _ = false

abbrev pub or_caught : Gives Value → (Value → Run Value) → Gives Value
or_caught (thrown x s) catches = catches x s
or_caught other catches = other

-- a thrown exception goes to the catches
abbrev pub caught_by : Run Value → (Value → Run Value) → Run Value
caught_by body catches s = or_caught (body s) catches

abbrev pub and_last : Gives Value → Run Value → Gives Value
and_last (gave x s) last = then_do (last s) (λ ignored s. gave x s)
and_last (thrown x s) last = then_do (last s) (λ ignored s. thrown x s)
and_last (returned x s) last = then_do (last s) (λ ignored s. returned x s)
and_last (broken s) last = then_do (last s) (λ ignored s. broken s)
and_last (continued s) last = then_do (last s) (λ ignored s. continued s)
and_last (stopped why w) last = stopped why w

-- a block, and the block of `finally`. Where the coroutine stops, no `finally` runs
abbrev pub with_last : Run Value → Run Value → Run Value
with_last body last s = and_last (body s) last

abbrev pub breaks : Run Value
breaks s = broken s

abbrev pub continues : Run Value
continues s = continued s
