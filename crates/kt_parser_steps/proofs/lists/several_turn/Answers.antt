use Rattle.kt_parser_steps.proofs.Turning.{pushed, refused}
use Rattle.kt_parser_steps.proofs.FurtherItems.{more_goes, more_fails, more_ends}
use Rattle.kt_parser_steps.proofs.lists.several_turn.Goals as goal

pub returns-in_err-next-in-Some : goal.returns-in_err-next-in-Some
returns-in_err-next-in-Some g c p h = refused _ _ c.in_err-next-in-Some.field-0.0 _ (λ some. more_fails _ _ _ p _ _ _ _ c.in-Some.ensures _ c.skip_lines.ensures _ (h _ _ _ c.in_err-next-in-Some.ensures some)) _ c.from_residual.ensures

pub returns-in_ok-push-in-Some : goal.returns-in_ok-push-in-Some
returns-in_ok-push-in-Some g c p h = more_goes _ _ _ p _ _ _ _ c.in-Some.ensures _ c.skip_lines.ensures _ _ (h _ _ _ c.in_ok-next-in-Some.ensures) _ (pushed _ _ _ _ c.in_ok-push-in-Some.ensures.ok)

pub returns-in-None : goal.returns-in-None
returns-in-None g c p h = more_ends _ _ _ p _ _ _ c.in-None.ensures.0 c.in-None.ensures.1
