use Rattle.kt_parser_steps.proofs.Choosing.{on_reads, on_skips}
use Rattle.kt_parser_primaries.proofs.primaries.Primaries.braced.Goals as goal

pub returns-in-Some : goal.returns-in-Some
returns-in-Some g c = on_reads _ _ _ _ _ _ _ _ _ c.in-Some.ensures c.lambda_rest.ensures

pub returns-in-Some-take_keyword : goal.returns-in-Some-take_keyword
returns-in-Some-take_keyword g c = on_skips _ _ _ _ _ _ _ _ c.in-None.ensures (on_reads _ _ _ _ _ _ _ _ _ c.in-Some-take_keyword.ensures c.when_rest.ensures)

pub returns-in-Some-take_keyword-2 : goal.returns-in-Some-take_keyword-2
returns-in-Some-take_keyword-2 g c = on_skips _ _ _ _ _ _ _ _ c.in-None.ensures (on_skips _ _ _ _ _ _ _ _ c.in-None-take_keyword.ensures (on_reads _ _ _ _ _ _ _ _ _ c.in-Some-take_keyword-2.ensures c.try_rest.ensures))

pub returns-in-None-take_keyword-2 : goal.returns-in-None-take_keyword-2
returns-in-None-take_keyword-2 g c = on_skips _ _ _ _ _ _ _ _ c.in-None.ensures (on_skips _ _ _ _ _ _ _ _ c.in-None-take_keyword.ensures (on_skips _ _ _ _ _ _ _ _ c.in-None-take_keyword-2.ensures c.atom.ensures))
