use Rattle.std.proofs.Common.{◌≤◌, refl, arith}
use Rattle.jvm_pool_reader.proofs.Steps.{goes_on, stops, ends, smaller}
use Rattle.jvm_pool_reader.proofs.stretches.stretch.Goals as goal

pub entries-smaller : goal.entries-smaller
entries-smaller c =
    smaller c.args.units c.next.result _ c.entries.raws c.in_ok-raws-in-Ok.raws _ c.next.ensures.value
    (omega (arith, c.entries-test.true)) c.in_ok-raws-in-Ok.ensures

pub entries-preserved : goal.entries-preserved
entries-preserved c =
    let some : c.next-in-entries.result ≤ c.args.units =
    omega (arith, c.entries-test.true, c.next.ensures.value, c.next-in-entries.ensures.value) in
    rw (c.in_ok-raws-in-Ok.ensures, c.offset-at.ensures)
    (goes_on c.args.units c.args.place c.entries.raws c.entries.rest _ c.next-in-entries.result c.entries.invariant
    c.next-in-entries.ensures.value c.in-Ok.behind c.in-Ok.raw some refl c.in-Ok.ensures)

pub returns-in-Err : goal.returns-in-Err
returns-in-Err c =
    let some : c.next-in-entries.result ≤ c.args.units =
    omega (arith, c.entries-test.true, c.next.ensures.value, c.next-in-entries.ensures.value) in
    stops c.args.units c.args.place c.entries.raws c.entries.rest _ c.next-in-entries.result c.entries.invariant
    c.next-in-entries.ensures.value c.in-Err.error c.in_ok-offset-in-Err.offset some refl c.in_ok-offset-in-Err.ensures c.in-Err.ensures

pub returns : goal.returns
returns c =
    ends c.args.units c.args.place c.entries.raws c.entries.rest 0 c.next.result c.entries.invariant
    c.next.ensures.value (omega (arith, c.entries-test.false))
