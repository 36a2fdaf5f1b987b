use Rattle.kt_parser_steps.proofs.Choosing.{on_if_reads, on_if_skips}
use Rattle.kt_parser_statements.proofs.statements.Statements.loop_or_simple.Goals as goal

pub returns-in-Some : goal.returns-in-Some
returns-in-Some g c = on_if_reads _ _ _ _ _ _ _ _ _ _ _ c.is_deep-deep.ensures c.in-Some.ensures c.while_rest.ensures

pub returns-in-Some-keyword_if : goal.returns-in-Some-keyword_if
returns-in-Some-keyword_if g c = on_if_skips _ _ _ _ _ _ _ _ _ _ c.is_deep-deep.ensures c.in-None.ensures (on_if_reads _ _ _ _ _ _ _ _ _ _ _ c.is_deep-deep.ensures c.in-Some-keyword_if.ensures c.do_rest.ensures)

pub returns-in-Some-keyword_if-2 : goal.returns-in-Some-keyword_if-2
returns-in-Some-keyword_if-2 g c = on_if_skips _ _ _ _ _ _ _ _ _ _ c.is_deep-deep.ensures c.in-None.ensures (on_if_skips _ _ _ _ _ _ _ _ _ _ c.is_deep-deep.ensures c.in-None-keyword_if.ensures (on_if_reads _ _ _ _ _ _ _ _ _ _ _ c.is_deep-deep.ensures c.in-Some-keyword_if-2.ensures c.for_rest.ensures))

pub returns-in-None-keyword_if-2 : goal.returns-in-None-keyword_if-2
returns-in-None-keyword_if-2 g c = on_if_skips _ _ _ _ _ _ _ _ _ _ c.is_deep-deep.ensures c.in-None.ensures (on_if_skips _ _ _ _ _ _ _ _ _ _ c.is_deep-deep.ensures c.in-None-keyword_if.ensures (on_if_skips _ _ _ _ _ _ _ _ _ _ c.is_deep-deep.ensures c.in-None-keyword_if-2.ensures c.simple_without_brace.ensures))
