use Rattle.std.proofs.Common.{sym, ◌∙◌}
use Rattle.kt_grammar.specs.Terminals.{text_of}
use Rattle.kt_parser_steps.proofs.Ways.{meant_spent, meant_missed, meant_found}
use Rattle.kt_parser_steps.proofs.steps.meant_text.Goals as goal

pub returns-in-empty : goal.returns-in-empty
returns-in-empty c = meant_spent text_of _ _ _ c.rest.ensures c.refuse.ensures.marked c.in-empty.len_below

pub returns-in-Some : goal.returns-in-Some
returns-in-Some c = meant_found text_of _ _ _ c.rest.ensures _ c.in-len1-up.len_at_least c.token-item.is _ (sym c.in-Some.is ∙ c.in_ok-part-in-len1-up.ensures) c.go_to.ensures

pub returns-in-None : goal.returns-in-None
returns-in-None c = meant_missed text_of _ _ _ c.rest.ensures c.refuse-in-None.ensures.marked _ c.in-len1-up.len_at_least c.token-item.is (sym c.in-None.is ∙ c.in_ok-part-in-len1-up.ensures)
