-- The height of the stack while code runs, as a writer and a reader count it.
use Rattle.std.specs.Prelude.{ℕ, ◌+◌, ◌-◌, max, List, [], ◌∷◌, Option, None, Some, option_map, option_and_then, nat_le, if◌then◌else◌}
use Rattle.kt_base.specs.declared.stack_code.Plain.{Plain}
use Rattle.kt_base.specs.declared.stack_code.Plain.TheVariants.{Push, Add, Sub, Mul, Print}

-- the height less one, where there are so many
abbrev pub one_less : ℕ → ℕ → Option ℕ
one_less wanted height = if nat_le wanted height then Some (height - 1) else None

-- the height after a step, none where an operand is missing
abbrev pub height_after : Plain → ℕ → Option ℕ
height_after (Push n) height = Some (height + 1)
height_after Add height = one_less 2 height
height_after Sub height = one_less 2 height
height_after Mul height = one_less 2 height
height_after Print height = one_less 1 height

-- the greatest height while the code runs from a height, none where an operand is missing
abbrev pub highest_from : List Plain → ℕ → Option ℕ
highest_from [] height = Some height
highest_from (step ∷ code) height =
    option_map (max height) (option_and_then (highest_from code) (height_after step height))
