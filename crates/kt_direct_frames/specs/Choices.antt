-- What is done with conditions, with subjects of `when`, and behind `finally`.
use Rattle.std.specs.Prelude.{Bool, map, option_map}
use Rattle.kt_typed.specs.Bodies.{block_form, condition_form, conditions_of, entries_of, entry_form, maybe_block}
use Rattle.kt_values.specs.Values.{Value}
use Rattle.kt_values.specs.Runs.{Run, Gives, gave, thrown, returned, broken, continued, ◌>>=◌}
use Rattle.kt_meaning.specs.Activations.{Activation}
use Rattle.kt_meaning.specs.Conditionals.{branch}
use Rattle.kt_meaning.specs.Equality.{compared}
use Rattle.kt_meaning.specs.Eval.{is_any_met, value_of_block, value_of_entries, value_of_maybe_block}
use Rattle.kt_direct_values.specs.Forms.{value_form}
use Rattle.kt_direct_frames.specs.declared.choices.AfterChoice.{AfterChoice}
use Rattle.kt_direct_frames.specs.declared.choices.AfterChoice.TheVariants as after
use Rattle.kt_direct_frames.specs.declared.choices.Kept.{Kept}
use Rattle.kt_direct_frames.specs.declared.choices.Kept.TheVariants as kept
use Rattle.kt_direct_frames.specs.declared.choices.WhenRest.{WhenRest}
use Rattle.kt_direct_frames.specs.Results.{as_truth_value}

-- whether one of them is met
abbrev pub chosen : Activation → WhenRest → Value → Run Value
chosen here w =
    branch (value_of_block here (block_form w.body.now))
    (value_of_entries here (entries_of (map entry_form w.entries.now)) (value_form w.subject))

-- the body of the entry where one of the conditions that are left is met, else the entries behind it
abbrev pub rest_of_when : Activation → WhenRest → Run Value
rest_of_when here w =
    is_any_met here (conditions_of (map condition_form w.conditions.now)) (value_form w.subject) >>= chosen here w

-- whether the condition before those that are left is met
abbrev pub first_met : Activation → WhenRest → Value → Run Value
first_met here w = branch (value_of_block here (block_form w.body.now)) (rest_of_when here w)

-- the end of the code before a `finally`, on the store behind it
abbrev pub ended_so : Kept → Run Value
ended_so (kept.Gave x) s = gave (value_form x) s
ended_so (kept.Thrown x) s = thrown (value_form x) s
ended_so (kept.Returned x) s = returned (value_form x) s
ended_so kept.Broken s = broken s
ended_so kept.Continued s = continued s

abbrev pub after_choice : Activation → AfterChoice → Value → Run Value
after_choice here (after.If b c) x =
    branch (value_of_block here (block_form b.now))
    (value_of_maybe_block here (maybe_block (option_map block_form c.now))) x
after_choice here (after.Subject es) x = value_of_entries here (entries_of (map entry_form es.now)) x
after_choice here (after.Equals is_null w) x =
    as_truth_value (compared here is_null (value_form w.subject) x) >>= first_met here w
after_choice here (after.Met w) x = first_met here w x
after_choice here (after.Last k) x = ended_so k
