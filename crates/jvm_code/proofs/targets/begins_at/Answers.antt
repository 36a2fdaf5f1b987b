use Rattle.std.proofs.Common.{◌+◌, ◌-◌, ◌<◌, length, sym, ◌∙◌, arith}
use Rattle.std.specs.Prelude.{◌/◌}
use Rattle.jvm_code.specs.Decoding.{rows, starts_of}
use Rattle.jvm_code.proofs.Starts.{length_starts, start_at, outside_below, outside_above, found_none, found_here}
use Rattle.jvm_code.proofs.targets.begins_at.Goals as goal

pub returns-then-start-target : goal.returns-then-start-target
returns-then-start-target c =
    let lt : c.loop-low.low + (c.loop-low.high - c.loop-low.low) / 2 < length c.args.code.now = omega (arith, length_starts c.args.code.now) in
    sym (found_here (starts_of (rows c.args.code.now)) c.args.target (c.loop-low.low + (c.loop-low.high - c.loop-low.low) / 2) (omega (arith, length_starts c.args.code.now))
    (start_at c.args.code.now (c.loop-low.low + (c.loop-low.high - c.loop-low.low) / 2) c.index-code-middle.result lt ∙ c.if-start-target.true))

pub loop-low-preserved-then-start-target-2 : goal.loop-low-preserved-then-start-target-2
loop-low-preserved-then-start-target-2 c =
    let lt : c.loop-low.low + (c.loop-low.high - c.loop-low.low) / 2 < length c.args.code.now = omega (arith, length_starts c.args.code.now) in
    outside_below (starts_of (rows c.args.code.now)) c.args.target c.loop-low.low c.loop-low.high (c.loop-low.low + (c.loop-low.high - c.loop-low.low) / 2) c.requires c.loop-low.invariant (omega arith) (omega arith)
    (rw (start_at c.args.code.now (c.loop-low.low + (c.loop-low.high - c.loop-low.low) / 2) c.index-code-middle.result lt) (omega arith))

pub loop-low-preserved : goal.loop-low-preserved
loop-low-preserved c =
    let lt : c.loop-low.low + (c.loop-low.high - c.loop-low.low) / 2 < length c.args.code.now = omega (arith, length_starts c.args.code.now) in
    outside_above (starts_of (rows c.args.code.now)) c.args.target c.loop-low.low c.loop-low.high (c.loop-low.low + (c.loop-low.high - c.loop-low.low) / 2) c.requires c.loop-low.invariant (omega arith) (omega arith)
    (rw (start_at c.args.code.now (c.loop-low.low + (c.loop-low.high - c.loop-low.low) / 2) c.index-code-middle.result lt) (omega arith))

pub returns : goal.returns
returns c = sym (found_none (starts_of (rows c.args.code.now)) c.args.target c.loop-low.low c.loop-low.high c.loop-low.invariant c.loop-low-test.false)
