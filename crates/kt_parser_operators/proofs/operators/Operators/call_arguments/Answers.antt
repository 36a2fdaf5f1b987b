use Rattle.kt_parser_steps.proofs.Choosing.{on_reads, on_skips}
use Rattle.kt_parser_operators.proofs.operators.Operators.call_arguments.Goals as goal

pub returns-in-Some : goal.returns-in-Some
returns-in-Some g c = on_reads _ _ _ _ _ _ _ _ _ c.in-Some.ensures c.placed_arguments.ensures

pub returns-in-None : goal.returns-in-None
returns-in-None g c = on_skips _ _ _ _ _ _ _ _ c.in-None.ensures c.lambda_argument.ensures
