use Rattle.std.proofs.Common.{◌≡◌, map, take}
use Rattle.jvm_runtime.specs.Members.{field_seen}
use Rattle.class_headers.specs.Headers.{field_header}
use Rattle.class_headers.proofs.making.own_fields.Given as goal

abbrev pub invariant-loop-field : goal.invariant-loop-field
invariant-loop-field l = l.made ≡ map field_header (map field_seen (take l.field-index l.fields))
