-- What a call answers beside what comes of a tree by the rules. Want of memory says nothing.
use Rattle.std.specs.Prelude.{Result, Ok, Err, ◌≡◌}
use Rattle.kt_check_rules.specs.States.{State}
use Rattle.kt_check_deciding.specs.Outcomes.{Outcome, found, none, unbuilt, Reading, reading}
use Rattle.kt_check_names.specs.declared.why.Why.{Why}
use Rattle.kt_check_names.specs.declared.why.Why.TheVariants as why

abbrev pub Answers : {A B : Type 0} → (A → B) → Result A Why → Outcome B → Type 0
Answers view (Ok a) o = o ≡ found (view a)
Answers view (Err why.Refused) o = o ≡ none
Answers view (Err why.NotBuilt) o = o ≡ unbuilt
Answers view (Err why.NoMemory) o = Unit {0}

-- with what is known behind it
abbrev pub Reads : {A B : Type 0} → (A → B) → Result A Why → State → Outcome (Reading B) → Type 0
Reads view r behind o = Answers (λ a. reading (view a) behind) r o
