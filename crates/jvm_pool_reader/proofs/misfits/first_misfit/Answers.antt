use Rattle.std.proofs.Common.{arith, sym, ◌∙◌}
use Rattle.jvm_pool_bytes.specs.Reading.{raws_of}
use Rattle.jvm_pool_reader.proofs.Judging.{finished, passed_so, stopped_so}
use Rattle.jvm_pool_reader.proofs.misfits.first_misfit.Goals as goal

pub returns-then-is_some : goal.returns-then-is_some
returns-then-is_some c =
    stopped_so (raws_of c.args.raws.now) c.args.count c.args.raws.now c.loop-position.position c.loop-position.invariant
    c.in_ok-found.found c.in_ok-found.ensures (sym c.is_some.ensures ∙ c.if-is_some.true)

pub loop-position-preserved : goal.loop-position-preserved
loop-position-preserved c =
    passed_so (raws_of c.args.raws.now) c.args.count c.args.raws.now c.loop-position.position c.loop-position.invariant
    c.in_ok-found.found c.in_ok-found.ensures (sym c.is_some.ensures ∙ c.if-is_some.false)
    (omega (arith, c.loop-position-test.true, c.len-position-end.ensures))

pub returns : goal.returns
returns c =
    finished (raws_of c.args.raws.now) c.args.count c.args.raws.now c.loop-position.position c.loop-position.invariant
    (omega (arith, c.loop-position-test.false, c.len-position-end.ensures))
