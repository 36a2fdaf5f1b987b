use Rattle.class_verify_rules.proofs.Faults as lemma
use Rattle.class_verify_rules.proofs.laws.not_both.Goals as goal

pub returns : goal.returns
returns c = lemma.not_both
