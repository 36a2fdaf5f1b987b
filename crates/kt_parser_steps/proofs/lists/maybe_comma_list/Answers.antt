use Rattle.kt_parser_steps.proofs.Turning.{none_listed, some_listed}
use Rattle.kt_parser_steps.proofs.lists.maybe_comma_list.Goals as goal

pub returns-in-Some : goal.returns-in-Some
returns-in-Some g c p h = none_listed _ _ _ p _ _ _ c.in-Some.ensures _ c.new.ensures

pub returns-in-None : goal.returns-in-None
returns-in-None g c p h = some_listed _ _ _ p _ _ c.in-None.ensures _ _ (c.comma_list.ensures p h)
