use Rattle.std.proofs.Common.{refl, sym, ◌∙◌}
use Rattle.kt_typed.specs.Bodies.{fun_form, statement_form}
use Rattle.kt_sizes.specs.Counting.{sizes_of_statement}
use Rattle.kt_limits.specs.Walking.{part_behind}
use Rattle.kt_limits.proofs.Steps.{step_is, counted_nodes, stepped_ok, stepped_err}
use Rattle.kt_limits.proofs.bodies.statement_part.Goals as goal

pub returns-in-Ok : goal.returns-in-Ok
returns-in-Ok c = λ s is.
    let so = c.behind-so_far.ensures s (statement_form c.args.statement.now) is c.statement_sizes-sizes.ensures c.statement_notes-notes.ensures in
    stepped_ok (fun_form c.args.body.now) s (statement_form c.args.statement.now) c.args.count c.in-Ok.nodes c.behind-so_far.result
    (step_is c.args.count _ (part_behind (fun_form c.args.body.now) s (statement_form c.args.statement.now)) _ _ _ refl
    (c.is_fine_statement-is_fine.ensures s (statement_form c.args.statement.now) is so c.statement_notes-notes.ensures) c.place_of.ensures
    (c.in-Ok.ensures (sizes_of_statement (statement_form c.args.statement.now)).nodes
    (counted_nodes c.statement_sizes-sizes.result (sizes_of_statement (statement_form c.args.statement.now)) c.statement_sizes-sizes.ensures))) so

pub returns-in-Err : goal.returns-in-Err
returns-in-Err c = λ s is.
    let so = c.behind-so_far.ensures s (statement_form c.args.statement.now) is c.statement_sizes-sizes.ensures c.statement_notes-notes.ensures in
    stepped_err (fun_form c.args.body.now) s (statement_form c.args.statement.now) c.args.count c.in-Err.place
    (step_is c.args.count _ (part_behind (fun_form c.args.body.now) s (statement_form c.args.statement.now)) _ _ _ refl
    (c.is_fine_statement-is_fine.ensures s (statement_form c.args.statement.now) is so c.statement_notes-notes.ensures) c.place_of.ensures
    (c.in-Err.ensures (sizes_of_statement (statement_form c.args.statement.now)).nodes
    (counted_nodes c.statement_sizes-sizes.result (sizes_of_statement (statement_form c.args.statement.now)) c.statement_sizes-sizes.ensures)))
