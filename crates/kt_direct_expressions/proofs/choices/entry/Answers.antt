use Rattle.std.proofs.Common.{sym, ap, ◌∙◌}
use Rattle.std.specs.Prelude.{map}
use Rattle.kt_typed.specs.Bodies as bodies
use Rattle.kt_typed.specs.Bodies.{block_form, condition_form, entry_form}
use Rattle.kt_values.specs.Runs.{then_do}
use Rattle.kt_meaning.specs.Conditionals.{branch}
use Rattle.kt_meaning.specs.Eval as eval
use Rattle.kt_direct_values.specs.Forms.{value_form}
use Rattle.kt_direct_expressions.proofs.Conditions.{any_first}
use Rattle.kt_direct_expressions.proofs.choices.entry.Goals as goal

pub returns-in-None : goal.returns-in-None
returns-in-None c = λ here s.
    ap (λ cs. eval.value_of_entry here (bodies.entry (bodies.conditions_of (map condition_form cs)) (block_form c.args.body.now))
    (value_form c.args.subject)
    (eval.value_of_entries here (bodies.entries_of (map entry_form c.args.rest.now)) (value_form c.args.subject)) s)
    c.in-None.ensures

pub returns-in-Some : goal.returns-in-Some
returns-in-Some c = λ here s.
    let subject = value_form c.args.subject in
    let body = eval.value_of_block here (block_form c.args.body.now) in
    let others = eval.value_of_entries here (bodies.entries_of (map entry_form c.args.rest.now)) subject in
    ap (λ cs. eval.value_of_entry here (bodies.entry (bodies.conditions_of (map condition_form cs)) (block_form c.args.body.now))
    subject others s) c.in-Some.ensures
    ∙ sym (any_first here (condition_form c.in-Some.field-0.0.now)
    (bodies.conditions_of (map condition_form c.in-Some.field-0.1.now)) subject body others s)
    ∙ sym (ap (λ cs. then_do (eval.is_any_met here (bodies.conditions_of (map condition_form cs)) subject s)
    (branch body others)) c.in-Some.ensures)
