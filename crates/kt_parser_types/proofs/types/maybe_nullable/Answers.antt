use Rattle.kt_parser_types.proofs.TypeSteps.{question_taken, question_missed}
use Rattle.kt_parser_types.proofs.types.maybe_nullable.Goals as goal

pub returns-in_ok-nullable-in-Some : goal.returns-in_ok-nullable-in-Some
returns-in_ok-nullable-in-Some c = question_taken _ _ _ _ _ c.in-Some.ensures c.in_ok-nullable-in-Some.ensures

pub returns-in-None : goal.returns-in-None
returns-in-None c = question_missed _ _ _ c.in-None.ensures
