use Rattle.std.proofs.lemmas.List.{take_more}
use Rattle.class_constants.proofs.Counting.{declared_next}
use Rattle.class_constants.proofs.fields.fields_declared.Goals as goal

pub loop-class-preserved : goal.loop-class-preserved
loop-class-preserved c =
    declared_next c.args.headers.now c.args.classes.now c.loop-class.class-index c.loop-class.count _ _
    c.fields_at.result.now (take_more c.args.classes.now c.loop-class.class-index _ c.loop-class-test.true)
    c.loop-class.invariant c.fields_at.ensures c.in_ok-count.ensures
