use Rattle.std.proofs.Common.{◌≡◌, ◌++◌, map, take}
use Rattle.class_tables.specs.Objects.{object_field}
use Rattle.class_tables.proofs.fields.push_fields.Given as goal

abbrev pub invariant-loop-field : goal.invariant-loop-field
invariant-loop-field l = l.into ≡ l.fn.into ++ map (object_field l.headers l.class) (take l.field-index l.field-items)
