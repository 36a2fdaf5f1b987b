use Rattle.kt_parser_steps.proofs.Turning.{refused}
use Rattle.kt_parser_operators.proofs.OneTurn.{compares, compares_not}
use Rattle.kt_parser_operators.proofs.operators.Operators.comparison_behind.Goals as goal

pub returns-in_err-whole : goal.returns-in_err-whole
returns-in_err-whole g c = refused _ _ c.in_err-whole.field-0.0 _ (λ some. compares_not _ _ _ _ _ (c.in_err-whole.ensures some)) _ c.from_residual.ensures

pub returns : goal.returns
returns g c = compares _ _ _ _ c.in_ok-whole.field-0 _ c.in_ok-whole.ensures c.in-More.whole c.in-More.is
