use Rattle.std.proofs.Common.{arith, ap, sym, ◌∙◌}
use Rattle.class_headers.proofs.IndexRules.{names_next}
use Rattle.class_headers.proofs.indexing.index_names.Goals as goal

pub loop-class-preserved : goal.loop-class-preserved
loop-class-preserved c =
    names_next c.args.headers.now c.loop-class.class c.index-headers-class.result c.loop-class.numbers c.add.new.self
    (let t = c.loop-class-test.true in omega arith) c.index-headers-class.is c.loop-class.invariant
    c.as_bytes.result.now (c.as_bytes.ensures.value ∙ ap (λ h. h.name) (sym c.index-headers-class.is)) c.in_ok-add.ensures
