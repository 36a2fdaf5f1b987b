-- What is done with conditions and bounds of loops, and behind a turn of one.
use Rattle.std.specs.Prelude.{◌+ℤ◌, pos, cond}
use Rattle.kt_typed.specs.Bodies.{block_form, expression_form}
use Rattle.kt_values.specs.Values as v
use Rattle.kt_values.specs.Values.{Value, as_truth}
use Rattle.kt_values.specs.Runs.{Run, ◌>>=◌, give, or_unfit}
use Rattle.kt_meaning.specs.Activations.{Activation}
use Rattle.kt_meaning.specs.Eval.{value_of, value_of_block}
use Rattle.kt_meaning.specs.Loops.{after_turn, do_loop, for_loop, over_range, while_loop, while_true}
use Rattle.kt_direct_values.specs.Forms.{value_form}
use Rattle.kt_direct_frames.specs.declared.loops.AfterTest.{AfterTest}
use Rattle.kt_direct_frames.specs.declared.loops.AfterTest.TheVariants as after
use Rattle.kt_direct_frames.specs.declared.loops.Range.TheVariants as range
use Rattle.kt_direct_frames.specs.declared.loops.Turn.{Turn}
use Rattle.kt_direct_frames.specs.declared.loops.Turn.TheVariants as turn
use Rattle.kt_direct_frames.specs.Results.{as_unit}

-- what a loop does behind its condition
abbrev pub if_so : Run (Unit {0}) → Value → Run Value
if_so again x = as_unit (or_unfit (as_truth x) >>= λ b. cond b again (give tt))

abbrev pub after_test : Activation → AfterTest → Value → Run Value
after_test here (after.While left e b) x =
    let test = value_of here (expression_form e.now) in
    let body = value_of_block here (block_form b.now) in
    if_so (after_turn body (while_loop left test body)) x
after_test here (after.DoWhile left b e) x =
    if_so (do_loop left (value_of_block here (block_form b.now)) (value_of here (expression_form e.now))) x
after_test here (after.First n o bound b) x =
    as_unit (value_of here (expression_form bound.now) >>= over_range here.bound n o (value_of_block here (block_form b.now)) x)
after_test here (after.Bound n o first b) x =
    as_unit (over_range here.bound n o (value_of_block here (block_form b.now)) (value_form first) x)

-- what a loop does behind a turn
abbrev pub again : Activation → Turn → Run (Unit {0})
again here (turn.While left e b) =
    while_loop left (value_of here (expression_form e.now)) (value_of_block here (block_form b.now))
again here (turn.DoWhile left b e) =
    let test = value_of here (expression_form e.now) in
    while_true test (do_loop left (value_of_block here (block_form b.now)) test)
again here (turn.For left n (range.Int current last) b) =
    for_loop left v.int n (current +ℤ pos 1) last (value_of_block here (block_form b.now))
again here (turn.For left n (range.Long current last) b) =
    for_loop left v.long n (current +ℤ pos 1) last (value_of_block here (block_form b.now))
