-- What comes of the attempt to type a tree.
use Rattle.std.specs.Prelude.{Bool, true, false, List, [], ◌∷◌, Option, Some, None}
use Rattle.kt_typed.specs.Bodies.{ExpressionForm}
use Rattle.kt_check_rules.specs.States.{State}
use Rattle.kt_check_rules.specs.Typings.{Use}

pub data Outcome (A : Type 0) : Type 0 where
  found : A → Outcome A
  -- it has no typing
  none : Outcome A
  -- it has a form that isn't typed yet
  unbuilt : Outcome A

-- what a tree is typed as, and what is known behind it
pub record Reading (A : Type 0) : Type 0 where
  pub value : A
  pub behind : State

abbrev pub reading : {A : Type 0} → A → State → Reading A
reading a s = record { value = a; behind = s }

-- from a place, and for a use
abbrev pub Decision : Type 0 → Type 0
Decision A = State → Use → Outcome (Reading A)

-- from a place
abbrev pub DecisionAt : Type 0 → Type 0
DecisionAt A = State → Outcome (Reading A)

abbrev pub then_go : {A B : Type 0} → Outcome A → (A → Outcome B) → Outcome B
then_go (found a) go = go a
then_go none go = none
then_go unbuilt go = unbuilt

-- only where a test holds
abbrev pub only_if : {A : Type 0} → Bool → Outcome A → Outcome A
only_if true o = o
only_if false o = none

-- where there is something
abbrev pub there : {A : Type 0} → Option A → Outcome A
there None = none
there (Some a) = found a

abbrev pub gives_some : {A : Type 0} → Option A → State → Outcome (Reading A)
gives_some None s = none
gives_some (Some a) s = found (reading a s)

abbrev pub gives_one : ExpressionForm → State → Outcome (Reading (List ExpressionForm))
gives_one u s = found (reading (u ∷ []) s)

abbrev pub gives_if : Option ExpressionForm → State → Outcome (Reading (List ExpressionForm))
gives_if None s = none
gives_if (Some u) s = gives_one u s

-- a form that has no rule yet
abbrev pub unruled : {A : Type 0} → Bool → Decision A
unruled true s w = none
unruled false s w = unbuilt

abbrev pub unruled_at : {A : Type 0} → Bool → DecisionAt A
unruled_at true s = none
unruled_at false s = unbuilt

-- only where all rules count, and not those alone that the code has
abbrev pub later : {A : Type 0} → Bool → Decision A → Decision A
later true d s w = d s w
later false d s w = unbuilt

abbrev pub later_at : {A : Type 0} → Bool → DecisionAt A → DecisionAt A
later_at true d s = d s
later_at false d s = unbuilt
