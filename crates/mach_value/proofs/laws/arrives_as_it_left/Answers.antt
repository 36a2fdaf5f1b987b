use Rattle.mach_value.proofs.Arriving.{arrived}
use Rattle.mach_value.proofs.laws.arrives_as_it_left.Goals as goal

pub returns : goal.returns
returns c = arrived
