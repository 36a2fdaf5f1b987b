use Rattle.std.proofs.Common.{◌≡◌}
use Rattle.class_supers.proofs.Rows.{rows_next}
use Rattle.class_tables.specs.Dispatch.{own_slots}
use Rattle.class_tables.proofs.slots.all_own_slots.Goals as goal

pub loop-class-preserved : goal.loop-class-preserved
loop-class-preserved c =
    rows_next (λ k row. row ≡ own_slots c.args.h.now k) c.loop-class.rows c.push.new.self c.loop-class.class
    c.in_ok-own_slots.field-0 c.loop-class.invariant.0 c.loop-class.invariant.1 c.in_ok-own_slots.ensures
    c.in_ok-push.ensures.ok
