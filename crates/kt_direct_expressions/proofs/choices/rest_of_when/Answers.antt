use Rattle.std.proofs.Common.{ap}
use Rattle.std.specs.Prelude.{map}
use Rattle.kt_typed.specs.Bodies as bodies
use Rattle.kt_typed.specs.Bodies.{block_form, condition_form, entry_form}
use Rattle.kt_meaning.specs.Eval as eval
use Rattle.kt_direct_values.specs.Forms.{value_form}
use Rattle.kt_direct_scope.specs.Activation.{here_form}
use Rattle.kt_direct_expressions.proofs.Conditions.{when_leads}
use Rattle.kt_direct_expressions.proofs.choices.rest_of_when.Goals as goal

pub returns-in-Some : goal.returns-in-Some
returns-in-Some c =
    let here = here_form c.args.here.now in
    let subject = value_form c.args.w.subject in
    λ s. when_leads here c.condition.result (condition_form c.in-Some.both.0.now)
    (bodies.conditions_of (map condition_form c.in-Some.both.1.now))
    (bodies.conditions_of (map condition_form c.args.w.conditions.now)) subject
    (eval.value_of_block here (block_form c.args.w.body.now))
    (eval.value_of_entries here (bodies.entries_of (map entry_form c.args.w.entries.now)) subject) s
    (ap (λ cs. bodies.conditions_of (map condition_form cs)) c.in-Some.ensures) (c.condition.ensures s)
