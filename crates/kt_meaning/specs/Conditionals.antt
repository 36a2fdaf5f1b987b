-- `if`, `when` and safe access (Kotlin specification, "Conditional expressions", "When expressions", "Navigation
-- operators").
use Rattle.std.specs.Prelude.{Bool, true, false, cond, not}
use Rattle.kt_types_tree.specs.Types.{TypeForm}
use Rattle.kt_typed.specs.Units.{UnitForm}
use Rattle.kt_values.specs.Values as v
use Rattle.kt_values.specs.Values.{Value, as_truth}
use Rattle.kt_values.specs.Runs.{Run, ◌>>=◌, give, or_unfit}
use Rattle.kt_meaning.specs.Types.{is_of}

-- one branch where the condition is true, the other where it is false
abbrev pub branch : Run Value → Run Value → Value → Run Value
branch yes_branch no_branch x = or_unfit (as_truth x) >>= λ b. cond b yes_branch no_branch

-- the test of a type, or its opposite where the first is true
abbrev pub tested : UnitForm → Bool → TypeForm → Value → Bool
tested u true t x = not (is_of u t x)
tested u false t x = is_of u t x

-- behind `?.`: null stays null
abbrev pub unless_null : (Value → Run Value) → Value → Run Value
unless_null go v.null = give v.null
unless_null go x = go x
