-- The weight of a body, by which the code that is made of it is bounded.
use Rattle.std.specs.Prelude.{ℕ, ◌+◌, ◌-◌, ◌*◌, length}
use Rattle.kt_typed.specs.Bodies.{FunForm, fun}
use Rattle.kt_sizes.specs.declared.sizes.Sizes.{Sizes}
use Rattle.kt_sizes.specs.Counting.{sizes_of_statements}

-- 48 for a node, 240 more for a loop, a `try` and a `catch`, 8 for what a lambda captures, those of the body itself
-- among them, and 24 for each variable and eight more at each suspension point. The operands that wait there are
-- variables
abbrev pub weight_of : Sizes → ℕ → ℕ → ℕ → ℕ
weight_of s captures parameters locals =
    48 * (s.nodes + parameters) + 240 * s.heavy + 8 * (s.captured + captures)
    + 24 * s.points * (locals + s.kept + (s.depth - 1) + 8)
    + 256

abbrev pub weight : FunForm → ℕ
weight (fun at suspends captures parameters locals t ss) =
    weight_of (sizes_of_statements ss) (length captures) parameters (length locals)
