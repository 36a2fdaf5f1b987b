use Rattle.std.proofs.Common.{refl}
use Rattle.kt_parser_steps.proofs.Choosing.{next_reads, next_passes}
use Rattle.kt_parser_operators.proofs.operators.Operators.with_lambda.Goals as goal

pub returns-then-sign_ahead : goal.returns-then-sign_ahead
returns-then-sign_ahead g c = next_reads _ _ _ _ _ _ _ _ c.if-sign_ahead.ensures c.lambda_behind.ensures

pub returns-else-sign_ahead : goal.returns-else-sign_ahead
returns-else-sign_ahead g c = next_passes _ _ _ _ _ _ c.if-sign_ahead.ensures refl
