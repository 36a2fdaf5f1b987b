use Rattle.class_verify_rules.proofs.Faults as lemma
use Rattle.class_verify_rules.proofs.laws.each_begins.Goals as goal

pub returns : goal.returns
returns c = lemma.each_begins
