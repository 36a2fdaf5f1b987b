use Rattle.kt_parser_steps.proofs.Turning.{comma_goes, comma_fails, close_ends, close_fails, pushed, refused, stopped}
use Rattle.kt_parser_steps.proofs.lists.comma_turn.Goals as goal

pub returns-in_err-further-in-Some : goal.returns-in_err-further-in-Some
returns-in_err-further-in-Some g c p h = refused _ _ c.in_err-further-in-Some.field-0.0 _ (λ some. comma_fails _ _ p _ _ _ _ c.in-Some.ensures _ (h _ _ _ c.in_err-further-in-Some.ensures some)) _ c.from_residual.ensures

pub returns-in_err-expect-in-None : goal.returns-in_err-expect-in-None
returns-in_err-expect-in-None g c p h = stopped _ _ _ (close_fails _ _ p _ _ _ c.in-None.ensures _ c.in_err-expect-in-None.ensures) _ c.from_residual-in_err-expect-in-None.ensures.0

pub returns-in_ok-push-in-Some : goal.returns-in_ok-push-in-Some
returns-in_ok-push-in-Some g c p h = comma_goes _ _ p _ _ _ _ c.in-Some.ensures _ _ (h _ _ _ c.in_ok-further-in-Some.ensures) _ (pushed _ _ _ _ c.in_ok-push-in-Some.ensures.ok)

pub returns-in_ok-expect-in-None : goal.returns-in_ok-expect-in-None
returns-in_ok-expect-in-None g c p h = close_ends _ _ p _ _ _ c.in-None.ensures _ _ c.in_ok-expect-in-None.ensures
