use Rattle.class_link.proofs.OneAnswer.{one_refusal}
use Rattle.class_link.proofs.laws.one_refusal.Goals as goal

pub returns : goal.returns
returns c = one_refusal
