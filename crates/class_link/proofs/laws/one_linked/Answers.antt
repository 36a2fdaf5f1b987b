use Rattle.class_link.proofs.OneAnswer.{one_linked}
use Rattle.class_link.proofs.laws.one_linked.Goals as goal

pub returns : goal.returns
returns c = one_linked
