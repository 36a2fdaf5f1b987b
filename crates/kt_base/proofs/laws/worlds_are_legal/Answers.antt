use Rattle.kt_base.proofs.Legal.{plays_legally}
use Rattle.kt_base.proofs.laws.worlds_are_legal.Goals as goal

pub returns : goal.returns
returns c = plays_legally
