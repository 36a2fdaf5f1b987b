-- Runs of other results as runs with a value.
use Rattle.std.specs.Prelude.{ℕ, Bool, List}
use Rattle.kt_values.specs.Values as v
use Rattle.kt_values.specs.Values.{Value}
use Rattle.kt_values.specs.Runs.{Gives, Run, then_do, gave, give, ◌>>=◌, ◌>>◌}

-- a run that has nothing but its store has the value `Unit`
abbrev pub as_unit : Run (Unit {0}) → Run Value
as_unit run = run >> give v.unit

abbrev pub as_truth_value : Run Bool → Run Value
as_truth_value run = run >>= λ b. give (v.truth b)

abbrev pub as_text_value : Run (List ℕ) → Run Value
as_text_value run = run >>= λ t. give (v.text t)

-- the end of a part, where its value isn't used
abbrev pub without_value : Gives Value → Gives (Unit {0})
without_value g = then_do g (λ x. give tt)
