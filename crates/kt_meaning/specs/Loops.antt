-- Loops (Kotlin specification, "Loop statements"). Each turn costs a turn of the coroutine, so a bound that is not
-- below the turns that are left is never met.
use Rattle.std.specs.Prelude.{ℕ, zero, suc, ℤ, pos, negsuc, ◌+ℤ◌, cond, int_le, None}
use Rattle.kt_tree.specs.declared.bodies.RangeOperator.{RangeOperator}
use Rattle.kt_tree.specs.declared.bodies.RangeOperator.TheVariants as range
use Rattle.kt_values.specs.Values as v
use Rattle.kt_values.specs.Values.{Value, as_truth, as_number}
use Rattle.kt_values.specs.Runs.{Run, Gives, gave, thrown, returned, broken, continued, stopped, ◌>>=◌, ◌>>◌, give, or_unfit, stop, bound_met, charge}
use Rattle.kt_meaning.specs.Variables.{set_local_slot}

-- behind a turn of the body the loop goes on, also after `continue`, and not after `break`
abbrev pub turned : Gives Value → Run (Unit {0}) → Gives (Unit {0})
turned (gave x s) again = again s
turned (continued s) again = again s
turned (broken s) again = gave tt s
turned (thrown x s) again = thrown x s
turned (returned x s) again = returned x s
turned (stopped why w) again = stopped why w

abbrev pub after_turn : Run Value → Run (Unit {0}) → Run (Unit {0})
after_turn body again s = turned (body s) again

-- a loop goes on while its condition is true
abbrev pub while_true : Run Value → Run (Unit {0}) → Run (Unit {0})
while_true test again = test >>= λ x. or_unfit (as_truth x) >>= λ b. cond b again (give tt)

-- `while`: a turn is charged before each test
unfoldable pub while_loop : ℕ → Run Value → Run Value → Run (Unit {0})
while_loop zero test body = charge >> stop bound_met
while_loop (suc n) test body = charge >> while_true test (after_turn body (while_loop n test body))

-- `do` .. `while`: a turn is charged before each turn of the body
unfoldable pub do_loop : ℕ → Run Value → Run Value → Run (Unit {0})
do_loop zero body test = charge >> stop bound_met
do_loop (suc n) body test = charge >> after_turn body (while_true test (do_loop n body test))

-- the last number of a range; it may be the one before the least
abbrev pub last_of : RangeOperator → ℤ → ℤ
last_of range.Through bound = bound
last_of range.Until bound = bound +ℤ negsuc 0

-- `for`: from a number to the last one, a turn is charged before each turn of the body. Here numbers don't wrap, so the
-- loop ends behind the greatest one
unfoldable pub for_loop : ℕ → (ℤ → Value) → ℕ → ℤ → ℤ → Run Value → Run (Unit {0})
for_loop zero as_value variable first last body = cond (int_le first last) (charge >> stop bound_met) (give tt)
for_loop (suc n) as_value variable first last body =
    cond (int_le first last)
    (charge >> set_local_slot variable (as_value first)
    >> after_turn body (for_loop n as_value variable (first +ℤ pos 1) last body))
    (give tt)

-- a loop variable is an `Int` or a `Long` as the first value is
abbrev pub over_range : ℕ → ℕ → RangeOperator → Run Value → Value → Value → Run (Unit {0})
over_range bound variable o body (v.int first) (v.int end) = for_loop bound v.int variable first (last_of o end) body
over_range bound variable o body (v.long first) (v.long end) = for_loop bound v.long variable first (last_of o end) body
over_range bound variable o body _ _ = or_unfit None
