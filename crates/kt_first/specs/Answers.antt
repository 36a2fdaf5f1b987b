-- What a call answers, beside a definition that may have no value.
use Rattle.std.specs.Prelude.{◌≡◌, List, [], ◌∷◌, ◌++◌, length, nat_le, Option, None, Some, option_map, Result, Ok, Err, if◌then◌else◌}
use Rattle.kt_base.specs.declared.refusals.FrontErr.{FrontErr}
use Rattle.kt_base.specs.declared.refusals.FrontErr.TheVariants as front_err
use Rattle.kt_base.specs.declared.stack_code.Plain.{Plain}
use Rattle.kt_first.specs.Programs.{Expression, expression_code}
use Rattle.kt_first.specs.declared.reading.FirstErr.{FirstErr}
use Rattle.kt_first.specs.declared.reading.FirstErr.TheVariants.{NotBuilt, NoMemory}

-- the value, seen so, is the definition's; NotBuilt exactly where it has none; want of memory says nothing
abbrev pub Answers : {A B : Type 0} → (A → B) → Result A FirstErr → Option B → Type 0
Answers view (Ok a) o = o ≡ Some (view a)
Answers view (Err NotBuilt) o = o ≡ None
Answers view (Err NoMemory) o = Unit {0}

-- the code, where it has at most 512 steps
abbrev pub few : Option (List Plain) → Option (List Plain)
few None = None
few (Some code) = if nat_le (length code) 512 then Some code else None

-- a text that the front end refuses isn't in the first subset
abbrev pub first_err_of : FrontErr → FirstErr
first_err_of (front_err.Refused r) = NotBuilt
first_err_of front_err.NoMemory = NoMemory

-- the code is what stood before with what the definition gives; NotBuilt exactly where that gives none
abbrev pub Pushes : Result Unit FirstErr → List Plain → List Plain → Option (List Plain) → Type 0
Pushes (Ok done) old new o = option_map (λ code. old ++ code) o ≡ Some new
Pushes (Err NotBuilt) old new o = o ≡ None
Pushes (Err NoMemory) old new o = Unit {0}

-- the code of an expression, and a step behind it
abbrev pub with_step : Plain → Expression → List Plain
with_step step a = expression_code a ++ step ∷ []
