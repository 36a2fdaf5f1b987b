-- Arguments behind others, and functions by their numbers.
use Rattle.std.specs.Prelude.{ℕ, Bool, List, [], ◌∷◌, ◌++◌, ◌+◌, ◌==◌, ◌&&◌, length, Option, Some, None, if◌then◌else◌}
use Rattle.kt_typed.specs.Bodies.{ExpressionForm}
use Rattle.kt_typed.specs.Headers.{FunctionForm}
use Rattle.kt_check_rules.specs.States.{is_name}
use Rattle.kt_check_deciding.specs.Outcomes.{Outcome, found, Reading, reading, then_go}

-- arguments that stand behind others
abbrev pub behind_others : List ExpressionForm → Outcome (Reading (List ExpressionForm)) →
    Outcome (Reading (List ExpressionForm))
behind_others done o = then_go o (λ y. found (reading (done ++ y.value) y.behind))

pub record NumberedForm : Type 0 where
  pub number : ℕ
  pub function : FunctionForm

abbrev pub numbered : ℕ → FunctionForm → NumberedForm
numbered n f = record { number = n; function = f }

-- the first function of a name that takes so many arguments, with its number
abbrev pub first_named : ℕ → List FunctionForm → List ℕ → ℕ → Option NumberedForm
first_named n [] x k = None
first_named n (f ∷ fs) x k =
    if is_name f.name x && length f.parameters == k then Some (numbered n f) else first_named (n + 1) fs x k
