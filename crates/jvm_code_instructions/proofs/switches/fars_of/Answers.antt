use Rattle.std.proofs.lemmas.Result.{err_from_is_err_and}
use Rattle.jvm_code_instructions.specs.Reading.{fars_at}
use Rattle.jvm_code_instructions.proofs.Loops.{targets_go_on, targets_end, targets_done}
use Rattle.jvm_code_instructions.proofs.switches.fars_of.Goals as goal

pub returns-in_err-target : goal.returns-in_err-target
returns-in_err-target c =
    let p = err_from_is_err_and c.from_residual.result c.from_residual.ensures.1 in
    rw (p.1, p.2) (targets_end c.in_err-target.field-0.0 c.loop.targets.items c.args.at c.args.count c.loop.counter c.loop.rest.now (fars_at c.args.at c.args.count c.args.bytes.now) c.loop-test.true c.in_err-target.ensures c.loop.invariant)

pub loop-preserved : goal.loop-preserved
loop-preserved c =
    rw c.in_ok-push.ensures.items (targets_go_on c.loop.targets.items c.args.at c.args.count c.loop.counter c.loop.rest.now c.in_ok-target.target c.in_ok-target.after.now (fars_at c.args.at c.args.count c.args.bytes.now) c.loop-test.true c.in_ok-target.ensures c.loop.invariant)

pub returns : goal.returns
returns c = targets_done c.loop.targets.items c.args.at c.args.count c.loop.counter c.loop.rest.now (fars_at c.args.at c.args.count c.args.bytes.now) c.loop-test.false c.loop.invariant
