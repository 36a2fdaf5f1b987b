use Rattle.std.proofs.Common.{arith}
use Rattle.class_headers.proofs.IndexRules.{virtuals_next}
use Rattle.class_headers.proofs.indexing.add_virtuals.Goals as goal

pub loop-place-preserved : goal.loop-place-preserved
loop-place-preserved c = (
  c.in_ok-add_virtual.ensures.whole,
  virtuals_next c.args.class c.args.index.now c.loop-place.index c.add_virtual.new.index c.args.methods.now
      c.loop-place.place c.index-methods-place.result (let t = c.loop-place-test.true in omega arith)
      c.index-methods-place.is c.loop-place.invariant.1 c.in_ok-add_virtual.ensures.added,
)
