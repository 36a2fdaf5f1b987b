use Rattle.kt_types_tree.proofs.Parts.{yes, no, both_empty, more_there, more_here}
use Rattle.kt_types_tree.proofs.equality.+equality.Goals as goal

pub are_same-returns-in-empty-others : goal.are_same-returns-in-empty-others
are_same-returns-in-empty-others t c = yes (both_empty c.args.all.now c.args.others.now c.in-empty.len_below c.in-empty-others.len_below)

pub are_same-returns-in_default : goal.are_same-returns-in_default
are_same-returns-in_default t c = no (more_there c.args.all.now c.args.others.now c.in-empty.len_below c.in_default.len_at_least)

pub are_same-returns-in-empty-others-2 : goal.are_same-returns-in-empty-others-2
are_same-returns-in-empty-others-2 t c = no (more_here c.args.all.now c.args.others.now c.in-len1-up.len_at_least c.in-empty-others-2.len_below)
