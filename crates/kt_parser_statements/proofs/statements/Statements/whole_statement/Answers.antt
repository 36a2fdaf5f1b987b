use Rattle.std.proofs.Common.{Bool}
use Rattle.kt_parser_steps.specs.Chosen.{found_token}
use Rattle.kt_parser_steps.proofs.Choosing.{attempt_skips}
use Rattle.kt_parser_steps.proofs.Ways.{attempt_ok, reads_from}
use Rattle.kt_parser_statements.proofs.statements.Statements.whole_statement.Goals as goal

pub returns-in-Some : goal.returns-in-Some
returns-in-Some g c = reads_from _ _ _ (attempt_ok _ _ _ _ _ _ c.in-Some.ensures) _ _ c.local_rest.ensures

pub returns-in-None : goal.returns-in-None
returns-in-None g c = attempt_skips _ (found_token {A = Bool}) _ _ _ _ _ _ _ c.in-None.ensures c.loop_or_simple.ensures
