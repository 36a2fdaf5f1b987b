-- Whether one of the lambdas that are found captures a local as a `var`.
use Rattle.std.specs.Prelude.{◌≡◌, ℕ, Bool, List, ◌++◌}
use Rattle.std.specs.List.{list_any}
use Rattle.kt_typed.specs.Order.{Found, lambdas_among}
use Rattle.kt_meaning.specs.Variables.{takes}

unfoldable pub is_taken_in : ℕ → List Found → Bool
is_taken_in n all = list_any (takes n) (lambdas_among all)

-- what was looked at so far, before a rest, makes up the whole
pub record Partly (n : ℕ) (done : Bool) (rest whole : List Found) : Type 0 where
  pub so_far : List Found
  pub is : done ≡ is_taken_in n so_far
  pub makes : so_far ++ rest ≡ whole
