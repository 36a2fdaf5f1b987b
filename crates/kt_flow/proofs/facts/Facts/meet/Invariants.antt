use Rattle.kt_flow.specs.Rows.{facts_form}
use Rattle.kt_flow.proofs.Rows.{IsMetBelow}
use Rattle.kt_flow.proofs.facts.Facts.meet.Given as goal

abbrev pub invariant-loop-row : goal.invariant-loop-row
invariant-loop-row l = IsMetBelow l.rows (facts_form l.self) (facts_form l.other) l.row
