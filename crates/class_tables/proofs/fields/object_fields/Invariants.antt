use Rattle.std.proofs.Common.{◌≡◌, take}
use Rattle.std.specs.Prelude.{flat_map}
use Rattle.class_tables.specs.Objects.{own_object_fields}
use Rattle.class_tables.proofs.fields.object_fields.Given as goal

abbrev pub invariant-loop-each : goal.invariant-loop-each
invariant-loop-each l = l.fields ≡ flat_map (own_object_fields l.h.headers) (take l.each-index l.each-items)
