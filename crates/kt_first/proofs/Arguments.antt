-- A call with several arguments isn't one of `println` in the first subset.
use Rattle.std.proofs.Common.{◌≡◌, ◌≤◌, List, [], ◌∷◌, length, map, None, refl, arith}
use Rattle.kt_tree.specs.declared.bodies.Expression.{Expression}
use Rattle.kt_tree.specs.Types.{TypeTree}
use Rattle.kt_tree.specs.Bodies.{expression_tree, expressions_of}
use Rattle.kt_first.specs.Trees.{one_argument}

pub several : (types : List TypeTree) (arguments : List Expression) → 2 ≤ length arguments → one_argument types (expressions_of (map expression_tree arguments)) ≡ None
several types [] two = absurd (omega (arith, two))
several types (a ∷ []) two = absurd (omega (arith, two))
several [] (a ∷ b ∷ arguments) two = refl
several (t ∷ types) (a ∷ b ∷ arguments) two = refl
