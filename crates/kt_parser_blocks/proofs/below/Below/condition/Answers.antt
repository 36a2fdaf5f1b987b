use Rattle.std.proofs.Common.{refl}
use Rattle.kt_parser_steps.proofs.Choosing.{attempt_if_reads, attempt_if_skips}
use Rattle.kt_parser_blocks.proofs.below.Below.condition.Goals as goal

pub returns-in-Some : goal.returns-in-Some
returns-in-Some g c = attempt_if_reads _ _ _ _ _ _ _ _ _ _ _ _ refl c.in-Some.ensures c.type_condition.ensures

pub returns-in-None : goal.returns-in-None
returns-in-None g c = attempt_if_skips _ _ _ _ _ _ _ _ _ _ _ refl c.in-None.ensures c.equals_condition.ensures
