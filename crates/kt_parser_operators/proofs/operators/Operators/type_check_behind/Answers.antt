use Rattle.std.proofs.Common.{refl}
use Rattle.kt_parser_steps.proofs.Choosing.{attempt_if_reads, attempt_if_passes}
use Rattle.kt_parser_operators.proofs.operators.Operators.type_check_behind.Goals as goal

pub returns-in-Some : goal.returns-in-Some
returns-in-Some g c = attempt_if_reads _ _ _ _ _ _ _ _ _ _ _ _ c.has_more-allowed.ensures c.in-Some.ensures c.type_check_rest.ensures

pub returns-in-None : goal.returns-in-None
returns-in-None g c = attempt_if_passes _ _ _ _ _ _ _ _ _ c.has_more-allowed.ensures c.in-None.ensures refl
