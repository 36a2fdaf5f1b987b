use Rattle.kt_types_tree.proofs.Parts.{yes, no}
use Rattle.kt_types_climbing.specs.Reading.{layers}
use Rattle.kt_types_climbing.proofs.Environments.{both_empty, more_here, more_there}
use Rattle.kt_types_climbing.proofs.reading.+reading.Goals as goal

pub are_read_alike-returns-in-empty-others : goal.are_read_alike-returns-in-empty-others
are_read_alike-returns-in-empty-others t c = yes (both_empty (layers c.args.environment.now) (layers c.args.other_environment.now) c.args.all.now c.args.others.now c.in-empty.len_below c.in-empty-others.len_below)

pub are_read_alike-returns-in_default : goal.are_read_alike-returns-in_default
are_read_alike-returns-in_default t c = no (more_there (layers c.args.environment.now) (layers c.args.other_environment.now) c.args.all.now c.args.others.now c.in-empty.len_below c.in_default.len_at_least)

pub are_read_alike-returns-in-empty-others-2 : goal.are_read_alike-returns-in-empty-others-2
are_read_alike-returns-in-empty-others-2 t c = no (more_here (layers c.args.environment.now) (layers c.args.other_environment.now) c.args.all.now c.args.others.now c.in-len1-up.len_at_least c.in-empty-others-2.len_below)
