use Rattle.std.proofs.Common.{◌≡◌, map, take}
use Rattle.class_tables.specs.Dispatch.{header_of, placed, selected_like}
use Rattle.class_tables.proofs.table.table_of.Given as goal

abbrev pub invariant-loop-slot : goal.invariant-loop-slot
invariant-loop-slot l =
    l.made ≡ map (λ s. placed (selected_like l.h l.class (header_of l.h s))) (take l.slot-index l.slot-items)
