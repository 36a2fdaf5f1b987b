use Rattle.kt_check_rules.proofs.Placed.{cuts_have_typing}
use Rattle.kt_check_rules.proofs.laws.cuts_have_typing.Goals as goal

pub returns : goal.returns
returns c = cuts_have_typing
