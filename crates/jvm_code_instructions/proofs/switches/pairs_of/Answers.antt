use Rattle.std.specs.Prelude.{map}
use Rattle.std.proofs.lemmas.List.{map_push}
use Rattle.std.proofs.lemmas.Result.{err_from_is_err_and}
use Rattle.jvm_code_instructions.specs.Table.{pair_of}
use Rattle.jvm_code_instructions.specs.Reading.{pairs_at}
use Rattle.jvm_code_instructions.proofs.Loops.{pairs_go_on, pairs_end, pairs_done}
use Rattle.jvm_code_instructions.proofs.switches.pairs_of.Goals as goal

pub returns-in_err-pair : goal.returns-in_err-pair
returns-in_err-pair c =
    let p = err_from_is_err_and c.from_residual.result c.from_residual.ensures.1 in
    rw (p.1, p.2) (pairs_end c.in_err-pair.field-0.0 (map pair_of c.loop.pairs.items) c.args.at c.args.count c.loop.counter c.loop.first c.loop.rest.now (pairs_at c.args.at c.args.count 0 c.args.bytes.now) c.loop-test.true c.in_err-pair.ensures c.loop.invariant)

pub loop-preserved : goal.loop-preserved
loop-preserved c =
    rw (c.in_ok-push.ensures.items, map_push pair_of, c.place_behind-first.ensures) (pairs_go_on (map pair_of c.loop.pairs.items) c.args.at c.args.count c.loop.counter c.loop.first c.loop.rest.now (pair_of c.in_ok-pair.pair) c.in_ok-pair.after.now (pairs_at c.args.at c.args.count 0 c.args.bytes.now) c.loop-test.true c.in_ok-pair.ensures c.loop.invariant)

pub returns : goal.returns
returns c = pairs_done (map pair_of c.loop.pairs.items) c.args.at c.args.count c.loop.counter c.loop.first c.loop.rest.now (pairs_at c.args.at c.args.count 0 c.args.bytes.now) c.loop-test.false c.loop.invariant
