use Rattle.std.proofs.Common.{arith}
use Rattle.class_tables.proofs.Slotting.{slot_next}
use Rattle.class_tables.proofs.slots.index_of.Goals as goal

pub loop-slot-preserved : goal.loop-slot-preserved
loop-slot-preserved c = (
  c.in_ok-add_slot.ensures.whole,
  slot_next c.args.h.now c.args.places.now c.loop-slot.slot _ c.loop-slot.index c.add_slot.new.index
      (let t = c.loop-slot-test.true in omega arith) c.loop-slot.invariant.1 c.in_ok-add_slot.ensures.added,
)
