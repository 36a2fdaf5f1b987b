use Rattle.kt_parser_steps.proofs.Choosing.{attempt_if_reads, attempt_if_gives, attempt_if_passes}
use Rattle.kt_parser_statements.proofs.statements.Statements.assignment_rest.Goals as goal
use Rattle.kt_parser_steps.proofs.Optional.{so_made}

pub returns-in-Some : goal.returns-in-Some
returns-in-Some g c = attempt_if_reads _ _ _ _ _ _ _ _ _ _ _ _ c.assigns-assigns.ensures c.in-Some.ensures c.assign_rest.ensures

pub returns-in_ok-step-in-Some-take_step_operator : goal.returns-in_ok-step-in-Some-take_step_operator
returns-in_ok-step-in-Some-take_step_operator g c = attempt_if_passes _ _ _ _ _ _ _ _ _ c.assigns-assigns.ensures c.in-None.ensures (attempt_if_gives _ _ _ _ _ _ _ _ _ _ c.assigns-assigns.ensures c.in-Some-take_step_operator.ensures (so_made _ _ _ c.in_ok-step-in-Some-take_step_operator.ensures))

pub returns-in_ok-evaluate-in-None-take_step_operator : goal.returns-in_ok-evaluate-in-None-take_step_operator
returns-in_ok-evaluate-in-None-take_step_operator g c = attempt_if_passes _ _ _ _ _ _ _ _ _ c.assigns-assigns.ensures c.in-None.ensures (attempt_if_passes _ _ _ _ _ _ _ _ _ c.assigns-assigns.ensures c.in-None-take_step_operator.ensures (so_made _ _ _ c.in_ok-evaluate-in-None-take_step_operator.ensures))
