use Rattle.kt_parser_steps.proofs.Choosing.{on_gives, on_skips}
use Rattle.kt_parser_primaries.proofs.Parting.{ended_with}
use Rattle.kt_parser_primaries.proofs.primaries.Primaries.string_turn.Goals as goal

pub returns-in-Some : goal.returns-in-Some
returns-in-Some g c = on_gives _ _ _ _ _ _ _ c.in-Some.ensures (ended_with _ _ _ _ _ c.into_items.ensures c.template.ensures)

pub returns-in-None : goal.returns-in-None
returns-in-None g c = on_skips _ _ _ _ _ _ _ _ c.in-None.ensures c.further_part.ensures
