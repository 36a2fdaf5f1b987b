use Rattle.kt_parser_steps.proofs.Ways.{meant_spent, meant_missed, meant_found}
use Rattle.kt_parser_steps.proofs.steps.meant.Goals as goal

pub returns-in-empty : goal.returns-in-empty
returns-in-empty g c m h = meant_spent m _ _ _ c.rest.ensures c.refuse.ensures.marked c.in-empty.len_below

pub returns-in-Some : goal.returns-in-Some
returns-in-Some g c m h = meant_found m _ _ _ c.rest.ensures _ c.in-len1-up.len_at_least c.token-item.is _ (h _ _ c.in-Some.ensures) c.go_to.ensures

pub returns-in-None : goal.returns-in-None
returns-in-None g c m h = meant_missed m _ _ _ c.rest.ensures c.refuse-in-None.ensures.marked _ c.in-len1-up.len_at_least c.token-item.is (h _ _ c.in-None.ensures)
