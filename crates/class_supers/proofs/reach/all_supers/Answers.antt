use Rattle.class_supers.specs.Graph.{AreSupers}
use Rattle.class_supers.proofs.Rows.{rows_next}
use Rattle.class_supers.proofs.reach.all_supers.Goals as goal

pub loop-start-preserved : goal.loop-start-preserved
loop-start-preserved c =
    rows_next (AreSupers c.args.graph.now) c.loop-start.rows c.push.new.self c.loop-start.start c.in_ok-supers_of.field-0
    c.loop-start.invariant.0 c.loop-start.invariant.1 c.in_ok-supers_of.ensures c.in_ok-push.ensures.ok
