use Rattle.kt_parser_steps.proofs.FurtherItems.{led_found, led_missed, led_back}
use Rattle.kt_parser_steps.proofs.lists.comma_behind.Goals as goal

pub returns-in-Some : goal.returns-in-Some
returns-in-Some c = led_found _ _ _ _ c.skip_lead.ensures _ c.in-Some.ensures

pub returns-in-None : goal.returns-in-None
returns-in-None c = (led_missed _ _ _ _ c.skip_lead.ensures c.in-None.ensures _ _ c.go_to.ensures, led_back c.args.tokens.now c.go_to.new.self _ _ c.rest-place.ensures c.go_to.ensures)
