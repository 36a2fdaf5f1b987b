use Rattle.kt_parser_steps.proofs.Turning.{pushed, refused, stopped}
use Rattle.kt_parser_steps.proofs.SeparatedItems.{close_taken, item_fails, gap_fails, item_goes}
use Rattle.kt_parser_steps.proofs.lists.separated_turn.Goals as goal

pub returns-in-Some : goal.returns-in-Some
returns-in-Some g c p h = close_taken _ _ p _ _ _ _ c.in-Some.ensures

pub returns-in_err-next-in-None : goal.returns-in_err-next-in-None
returns-in_err-next-in-None g c p h = refused _ _ c.in_err-next-in-None.field-0.0 _ (λ some. item_fails _ _ p _ _ _ c.in-None.ensures _ (h _ _ _ c.in_err-next-in-None.ensures some)) _ c.from_residual.ensures

pub returns-in_err-gap-in-None : goal.returns-in_err-gap-in-None
returns-in_err-gap-in-None g c p h = stopped _ _ _ (gap_fails _ _ p _ _ _ c.in-None.ensures _ _ (h _ _ _ c.in_ok-next-in-None.ensures) _ c.in_err-gap-in-None.ensures) _ c.from_residual-in_err-gap-in-None.ensures.0

pub returns-in_ok-push-in-None : goal.returns-in_ok-push-in-None
returns-in_ok-push-in-None g c p h = item_goes _ _ p _ _ _ c.in-None.ensures _ _ (h _ _ _ c.in_ok-next-in-None.ensures) _ c.in_ok-gap-in-None.ensures _ (pushed _ _ _ _ c.in_ok-push-in-None.ensures.ok)
