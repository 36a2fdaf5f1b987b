use Rattle.kt_parser_steps.proofs.Choosing.{on_reads, on_skips}
use Rattle.kt_parser_blocks.proofs.below.Below.body.Goals as goal

pub returns-in-Some : goal.returns-in-Some
returns-in-Some g c = on_reads _ _ _ _ _ _ _ _ _ c.in-Some.ensures c.braced_body.ensures

pub returns-in-None : goal.returns-in-None
returns-in-None g c = on_skips _ _ _ _ _ _ _ _ c.in-None.ensures c.single_body.ensures
