use Rattle.kt_parser_steps.proofs.Turning.{refused}
use Rattle.kt_parser_blocks.proofs.Tried.{caught, uncaught}
use Rattle.kt_parser_blocks.proofs.below.Below.catch_more.Goals as goal

pub returns-in_err-next : goal.returns-in_err-next
returns-in_err-next g c = refused _ _ c.in_err-next.field-0.0 _ (λ some. uncaught c.args.self.now.room c.args.at c.args.catches c.args.token.now _ c.in_ok-name.ensures _ _ (c.in_err-next.ensures some)) _ c.from_residual-in_err-next.ensures

pub returns : goal.returns
returns g c = caught c.args.self.now.room c.args.at c.args.catches c.args.token.now _ c.in_ok-name.ensures _ _ _ c.in_ok-next.ensures _ c.in_ok-push.ensures.ok
