use Rattle.class_link.proofs.OneAnswer.{not_both}
use Rattle.class_link.proofs.laws.not_both.Goals as goal

pub returns : goal.returns
returns c = not_both
