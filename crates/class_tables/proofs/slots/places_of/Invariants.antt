use Rattle.std.proofs.Common.{◌≡◌, take}
use Rattle.std.specs.Prelude.{flat_map}
use Rattle.class_tables.specs.Dispatch.{own_slots}
use Rattle.class_tables.proofs.slots.places_of.Given as goal

abbrev pub invariant-loop-each : goal.invariant-loop-each
invariant-loop-each l = l.made.items ≡ flat_map (own_slots l.h) (take l.each-index l.each-items)
