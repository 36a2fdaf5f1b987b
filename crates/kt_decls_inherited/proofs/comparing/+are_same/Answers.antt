use Rattle.kt_types_tree.proofs.Parts.{yes, no}
use Rattle.kt_decls_inherited.proofs.Same.{both_empty, more_here, more_there}
use Rattle.kt_decls_inherited.proofs.comparing.+are_same.Goals as goal

pub returns-in-empty-others : goal.returns-in-empty-others
returns-in-empty-others t c = yes (both_empty c.args.all.now c.args.others.now c.in-empty.len_below c.in-empty-others.len_below)

pub returns-in_default : goal.returns-in_default
returns-in_default t c = no (more_there c.args.all.now c.args.others.now c.in-empty.len_below c.in_default.len_at_least)

pub returns-in-empty-others-2 : goal.returns-in-empty-others-2
returns-in-empty-others-2 t c = no (more_here c.args.all.now c.args.others.now c.in-len1-up.len_at_least c.in-empty-others-2.len_below)
