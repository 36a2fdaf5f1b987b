use Rattle.class_link_laws.proofs.Closing.{linked_closed}
use Rattle.class_link_laws.proofs.linked_are_closed.Goals as goal

pub returns : goal.returns
returns c = linked_closed
