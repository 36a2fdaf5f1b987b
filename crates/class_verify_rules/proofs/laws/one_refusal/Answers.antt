use Rattle.class_verify_rules.proofs.Faults as lemma
use Rattle.class_verify_rules.proofs.laws.one_refusal.Goals as goal

pub returns : goal.returns
returns c = lemma.one_refusal
