-- Each expression has a level, so one with room for a level above it has a level left for what that one holds.
use Rattle.std.proofs.Common.{◌≡◌, ℕ, zero, suc, ◌<◌, Bool, true, nat_lt, arith, refl}
use Rattle.std.proofs.lemmas.Bool.Decides.{nat_tests}
use Rattle.kt_tree.specs.Bodies as e
use Rattle.kt_tree.specs.Bodies.{ExpressionTree}
use Rattle.kt_tree.specs.Levels.{levels}
use Rattle.kt_grammar_parsers.specs.Parsers.{some_levels}

pub some_level : (a : ExpressionTree) → 0 < levels a
some_level (e.literal at l) = omega arith
some_level (e.template at ps) = omega arith
some_level (e.name at x) = omega arith
some_level (e.this at) = omega arith
some_level (e.parenthesized at a) = omega arith
some_level (e.lambda at l) = omega arith
some_level (e.prefix at o a) = omega arith
some_level (e.binary at o a b) = omega arith
some_level (e.type_check at a not t) = omega arith
some_level (e.cast at a safe t) = omega arith
some_level (e.not_null at a) = omega arith
some_level (e.member at a safe x) = omega arith
some_level (e.index at a b) = omega arith
some_level (e.call at f start ts es) = omega arith
some_level (e.if_else at a b c) = omega arith
some_level (e.when at a es) = omega arith
some_level (e.try_catch at b cs f) = omega arith
some_level (e.throw at a) = omega arith
some_level (e.return at a) = omega arith
some_level (e.break at) = omega arith
some_level (e.continue at) = omega arith

below_one : (n : ℕ) → 0 < n → nat_lt n 1 ≡ true → ⊥
below_one n some h = grind (arith, nat_tests)

pub room_left : (n : ℕ) (a : ExpressionTree) → nat_lt (levels a) (suc n) ≡ true → some_levels n ≡ true
room_left zero a h = absurd (below_one (levels a) (some_level a) h)
room_left (suc n) a h = refl
