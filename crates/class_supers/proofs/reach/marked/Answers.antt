use Rattle.class_supers.specs.Search.{marked_below}
use Rattle.class_supers.proofs.reach.marked.Goals as goal

pub loop-i-init : goal.loop-i-init
unfolding marked_below
loop-i-init c = c.new-row.ensures
