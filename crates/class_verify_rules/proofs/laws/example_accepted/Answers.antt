use Rattle.class_verify_rules.proofs.Accepted.{accepted}
use Rattle.class_verify_rules.proofs.laws.example_accepted.Goals as goal

pub returns : goal.returns
returns c = accepted
