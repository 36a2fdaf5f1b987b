use Rattle.std.proofs.Common.{rules, ◌∙◌}
use Rattle.kt_parser_steps.proofs.Turning.{loop_fails, loop_spent, turn_goes, turn_ends}
use Rattle.kt_parser_declarations.proofs.StepTurns.{step_stopped}
use Rattle.kt_parser_declarations.proofs.lists.repeat_steps.Goals as goal

pub returns-in_err-next : goal.returns-in_err-next
returns-in_err-next g c t h = step_stopped _ _ _ (c.loop-turn.invariant t h ∙ loop_fails _ _ _ c.loop-turn-test.true _ _ _ (h _ _ _ _ c.in_err-next.ensures)) _ c.from_residual.ensures.0

pub returns-in-Done : goal.returns-in-Done
returns-in-Done g c t h = c.loop-turn.invariant t h ∙ turn_ends _ _ t _ _ c.loop-turn-test.true _ _ _ _ (h _ _ _ _ c.in_ok-next.ensures) _ c.in-Done.is

pub loop-turn-preserved : goal.loop-turn-preserved
loop-turn-preserved g c t h = c.loop-turn.invariant t h ∙ turn_goes _ _ t _ _ c.loop-turn-test.true _ _ _ _ (h _ _ _ _ c.in_ok-next.ensures) _ c.in-More.is

pub returns : goal.returns
returns g c t h = c.loop-turn.invariant t h ∙ loop_spent _ _ _ c.loop-turn-test.false _ _ ∙ search rules
