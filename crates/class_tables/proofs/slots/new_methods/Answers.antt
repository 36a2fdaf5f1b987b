use Rattle.class_tables.specs.Dispatch.{new_before}
use Rattle.class_tables.proofs.slots.new_methods.Goals as goal

pub loop-place-init : goal.loop-place-init
unfolding new_before
loop-place-init c = c.new-made.ensures
