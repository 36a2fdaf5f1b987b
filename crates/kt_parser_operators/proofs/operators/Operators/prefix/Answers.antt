use Rattle.kt_parser_steps.proofs.Choosing.{attempt_if_reads, attempt_if_skips}
use Rattle.kt_parser_operators.proofs.operators.Operators.prefix.Goals as goal

pub returns-in-Some : goal.returns-in-Some
returns-in-Some g c = attempt_if_reads _ _ _ _ _ _ _ _ _ _ _ _ c.is_deep.ensures c.in-Some.ensures c.prefix_rest.ensures

pub returns-in-None : goal.returns-in-None
returns-in-None g c = attempt_if_skips _ _ _ _ _ _ _ _ _ _ _ c.is_deep.ensures c.in-None.ensures c.postfix.ensures
