-- The fields of an object, those of the class above first.
use Rattle.std.specs.Prelude.{ℕ, List, map, reverse, flat_map}
use Rattle.class_headers.specs.declared.headers.Header.{Header}
use Rattle.class_headers.specs.declared.headers.FieldHeader.{FieldHeader}
use Rattle.class_linked.specs.declared.classes.LinkedField.{LinkedField}
use Rattle.class_members.specs.declared.hierarchy.Hierarchy.{Hierarchy}
use Rattle.class_members.specs.Members.{chain_at}
use Rattle.class_constants.specs.Fields.{fields_at, is_final}
use Rattle.class_constants.specs.Kinds.{field_kind}

abbrev pub object_field : List Header → ℕ → FieldHeader → LinkedField
object_field hs c f = record { owner = c; kind = field_kind hs f.descriptor; is_final = is_final f.flags }

-- those that a class declares
abbrev pub own_object_fields : List Header → ℕ → List LinkedField
own_object_fields hs c = map (object_field hs c) (fields_at hs c)

abbrev pub object_fields : Hierarchy → ℕ → List LinkedField
object_fields h c = flat_map (own_object_fields h.headers) (reverse (chain_at h c))
