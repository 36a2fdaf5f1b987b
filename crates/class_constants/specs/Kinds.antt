-- The kinds of declared values, each class by its number (JVMS SE 8 §4.3).
use Rattle.std.specs.Prelude.{ℕ, zero, suc, ◌==◌, List, [], ◌∷◌, map, length, Option, None, Some, option_map}
use Rattle.std.specs.Prelude.{if◌then◌else◌}
use Rattle.jvm_pool.specs.declared.descriptors.FieldType.{FieldType}
use Rattle.jvm_pool.specs.declared.descriptors.FieldType.TheVariants as type
use Rattle.jvm_pool.specs.DescriptorReading.{first_type}
use Rattle.jvm_class_grammar.specs.Kinds.{parameters}
use Rattle.jvm_class_start.specs.Arguments.{behind_first, next_type}
use Rattle.class_headers.specs.declared.headers.Header.{Header}
use Rattle.class_headers.specs.Places.{number_of}
use Rattle.class_linked.specs.Numbers.{object_class, int_array_class, object_array_class}
use Rattle.class_linked.specs.declared.kinds.ValueKind.{ValueKind}
use Rattle.class_linked.specs.declared.kinds.ValueKind.TheVariants as kind
use Rattle.class_constants.specs.declared.signatures.Signature.{Signature}

-- the root where no class is there, which linked classes don't ask for
abbrev pub or_root : Option ℕ → ℕ
or_root None = object_class
or_root (Some c) = c

-- the class of a name
abbrev pub class_of : List Header → List ℕ → ℕ
class_of hs name = or_root (number_of hs name)

abbrev pub value_kind : List Header → FieldType → ValueKind
value_kind hs type.Int = kind.Int
value_kind hs type.Long = kind.Long
value_kind hs type.Bool = kind.Bool
value_kind hs type.Char = kind.Char
value_kind hs (type.Class name) = kind.Object (class_of hs name)
value_kind hs type.IntArray = kind.Object int_array_class
value_kind hs type.ObjectArray = kind.Object object_array_class

-- ---- fields: the type at the front, which a descriptor of a field has

abbrev pub first_kind : List Header → Option (FieldType × List ℕ) → ValueKind
first_kind hs None = kind.Object object_class
first_kind hs (Some found) = value_kind hs found.0

abbrev pub field_kind : List Header → List ℕ → ValueKind
field_kind hs descriptor = first_kind hs (first_type descriptor)

-- ---- methods: the types before the `)`, and the one behind it, if one is there

-- what stands behind so many parameters
unfoldable pub behind_types : ℕ → List ℕ → List ℕ
behind_types zero bytes = bytes
behind_types (suc n) bytes = elim (next_type bytes) [ None ↦ bytes | Some found ↦ behind_types n found.1 ]

-- where the parameters end: a descriptor has no more of them than bytes
abbrev pub behind_parameters : List ℕ → List ℕ
behind_parameters descriptor = behind_types (length (behind_first descriptor)) (behind_first descriptor)

abbrev pub result_kind : List Header → List ℕ → Option ValueKind
result_kind hs descriptor =
    option_map (λ found. value_kind hs found.0) (first_type (behind_first (behind_parameters descriptor)))

abbrev pub parameter_kinds : List Header → List ℕ → List ValueKind
parameter_kinds hs descriptor = map (value_kind hs) (parameters descriptor)

abbrev pub signature_of : List Header → List ℕ → Signature
signature_of hs descriptor = record {
  parameters = parameter_kinds hs descriptor;
  result = result_kind hs descriptor;
}
