use Rattle.std.proofs.Common.{take}
use Rattle.class_index.specs.Members.{IsWhole}
use Rattle.class_tables.specs.Dispatch.{FindsSlots}
use Rattle.class_tables.proofs.slots.index_of.Given as goal

abbrev pub invariant-loop-slot : goal.invariant-loop-slot
invariant-loop-slot l = IsWhole l.index × FindsSlots l.h (take l.slot l.places) l.index
