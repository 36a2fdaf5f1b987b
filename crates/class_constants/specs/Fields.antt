-- Where fields stand in objects: behind those of the classes above (JVMS SE 8 §5.4.3.2).
use Rattle.std.specs.Prelude.{ℕ, ◌+◌, Bool, true, false, List, [], ◌∷◌, length, Option, None, Some, slice_get}
use Rattle.jvm_class_types.specs.declared.flags.FieldFlags.{FieldFlags}
use Rattle.jvm_class_types.specs.declared.flags.FieldFlags.TheVariants as flag
use Rattle.class_headers.specs.declared.headers.Header.{Header}
use Rattle.class_headers.specs.declared.headers.FieldHeader.{FieldHeader}
use Rattle.class_members.specs.declared.hierarchy.Hierarchy.{Hierarchy}
use Rattle.class_members.specs.Members.{chain_at}

abbrev pub is_final : FieldFlags → Bool
is_final flag.Final = true
is_final flag.Variable = false

abbrev pub fields_of : Option Header → List FieldHeader
fields_of None = []
fields_of (Some header) = header.fields

abbrev pub fields_at : List Header → ℕ → List FieldHeader
fields_at hs c = fields_of (slice_get hs c)

-- how many fields these classes declare
abbrev pub fields_declared : List Header → List ℕ → ℕ
fields_declared hs [] = 0
fields_declared hs (c ∷ cs) = length (fields_at hs c) + fields_declared hs cs

-- without the class itself
abbrev pub above_in : List ℕ → List ℕ
above_in [] = []
above_in (c ∷ cs) = cs

-- how many fields an object of a class has from the classes above
abbrev pub fields_above : Hierarchy → ℕ → ℕ
fields_above h c = fields_declared h.headers (above_in (chain_at h c))

abbrev pub is_final_field : Option FieldHeader → Bool
is_final_field None = false
is_final_field (Some f) = is_final f.flags
