use Rattle.std.proofs.Common.{refl}
use Rattle.kt_typed.specs.Bodies.{fun_form, statement_form}
use Rattle.kt_limits.specs.Walking.{begun, behind}
use Rattle.kt_limits.proofs.Steps.{run_on, run_stops, run_ends, stepped_was}
use Rattle.kt_limits.proofs.bodies.first_statements.Goals as goal

pub loop-statement-init : goal.loop-statement-init
loop-statement-init c = (begun (fun_form c.args.body.now), c.beginning-so_far.ensures, refl)

pub loop-statement-preserved : goal.loop-statement-preserved
loop-statement-preserved c =
    let s = c.loop-statement.invariant.0 in
    let step = c.in-Ok.ensures s c.loop-statement.invariant.1 in (
      behind s (statement_form c.statement-item.result),
      (stepped_was (fun_form c.args.body.now) s (statement_form c.statement-item.result) c.loop-statement.count c.in-Ok.nodes c.in-Ok.behind step).1,
      run_on (fun_form c.args.body.now) s c.args.statements.now c.loop-statement.statement-index c.statement-item.result
          c.loop-statement-test.true c.statement-item.is c.loop-statement.count c.in-Ok.nodes c.in-Ok.behind _ c.loop-statement.invariant.2 step,
    )

pub returns-in-Err : goal.returns-in-Err
returns-in-Err c =
    run_stops (fun_form c.args.body.now) c.loop-statement.invariant.0 c.args.statements.now c.loop-statement.statement-index
    c.statement-item.result c.loop-statement-test.true c.statement-item.is c.loop-statement.count c.in-Err.place _
    c.loop-statement.invariant.2 (c.in-Err.ensures c.loop-statement.invariant.0 c.loop-statement.invariant.1)

pub returns : goal.returns
returns c =
    run_ends (fun_form c.args.body.now) c.loop-statement.invariant.0 c.args.statements.now c.loop-statement.statement-index
    c.loop-statement-test.false c.loop-statement.count _ c.loop-statement.invariant.2
