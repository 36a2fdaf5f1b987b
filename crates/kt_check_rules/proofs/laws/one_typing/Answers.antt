use Rattle.kt_check_rules.proofs.OnceBodies.{one_typing}
use Rattle.kt_check_rules.proofs.laws.one_typing.Goals as goal

pub returns : goal.returns
returns c = one_typing
