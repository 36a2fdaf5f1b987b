-- What the code of the first programs does.
use Rattle.std.specs.Prelude.{◌≡◌, ℤ, List, [], ◌∷◌, ◌++◌, Option, None, Some, option_and_then}
use Rattle.std.specs.Int.{w32, int_wrapping_add, int_wrapping_sub, int_wrapping_mul}
use Rattle.kt_base.specs.declared.stack_code.Plain.{Plain}
use Rattle.kt_base.specs.declared.stack_code.Plain.TheVariants as plain

-- the numbers on the stack, the upper one first, and those printed so far, in order
pub record Stacked : Type 0 where
  pub stack : List ℤ
  pub printed : List ℤ

-- the state after one step, none where an operand is missing
abbrev pub stepped : Plain → List ℤ → List ℤ → Option Stacked
stepped (plain.Push n) stack printed = Some (record { stack = n ∷ stack; printed = printed })
stepped plain.Add (b ∷ a ∷ stack) printed =
    Some (record { stack = int_wrapping_add w32 a b ∷ stack; printed = printed })
stepped plain.Sub (b ∷ a ∷ stack) printed =
    Some (record { stack = int_wrapping_sub w32 a b ∷ stack; printed = printed })
stepped plain.Mul (b ∷ a ∷ stack) printed =
    Some (record { stack = int_wrapping_mul w32 a b ∷ stack; printed = printed })
stepped plain.Print (n ∷ stack) printed = Some (record { stack = stack; printed = printed ++ n ∷ [] })
stepped _ stack printed = None

-- the state after a list of steps
abbrev pub runs : List Plain → Stacked → Option Stacked
runs [] state = Some state
runs (step ∷ code) state = option_and_then (runs code) (stepped step state.stack state.printed)

-- nothing is on the stack, and nothing was printed
abbrev pub nothing : Stacked
nothing = record { stack = []; printed = [] }

-- the code prints these values, and leaves nothing on the stack
abbrev pub Prints : List Plain → List ℤ → Type 0
Prints code values = runs code nothing ≡ Some (record { stack = []; printed = values })
