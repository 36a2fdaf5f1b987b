use Rattle.class_verify.proofs.Facts.{are_fine}
use Rattle.class_verify.proofs.verified.Verified.keeps_rules.Goals as goal

pub returns : goal.returns
returns c = are_fine c.args.self.now c.linked-linked.ensures.verified
