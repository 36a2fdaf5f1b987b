use Rattle.class_verify_rules.proofs.Rejected.{are_rejected}
use Rattle.class_verify_rules.proofs.laws.examples_rejected.Goals as goal

pub returns : goal.returns
returns c = are_rejected
