use Rattle.std.proofs.Common.{arith}
use Rattle.class_headers.proofs.IndexRules.{fields_next}
use Rattle.class_headers.proofs.indexing.add_fields.Goals as goal

pub loop-place-preserved : goal.loop-place-preserved
loop-place-preserved c = (
  c.in_ok-add.ensures.whole,
  fields_next c.args.class c.args.index.now c.loop-place.index c.add.new.self c.args.fields.now c.loop-place.place
      c.index-fields-place.result (let t = c.loop-place-test.true in omega arith) c.index-fields-place.is c.loop-place.invariant.1
      c.as_slice.result.now c.as_slice-in-loop-place.result.now c.as_slice.ensures c.as_slice-in-loop-place.ensures
      c.in_ok-add.ensures.added,
)
