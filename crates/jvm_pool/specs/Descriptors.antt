-- Descriptors of fields and methods (JVMS SE 8 §4.3.2, §4.3.3), for the types that the language has.
use Rattle.std.specs.Prelude.{◌≡◌, ℕ, Bool, not, ◌&&◌, ◌||◌, List, ◌++◌, length, Option, Some, None, All, IsTrue, nat_lt, ◌==◌, codes}
use Rattle.std.specs.List.{flat_map, list_all, slice_split}
use Rattle.jvm_pool.specs.declared.descriptors.FieldType.{FieldType}
use Rattle.jvm_pool.specs.declared.descriptors.FieldType.TheVariants as type
use Rattle.jvm_pool.specs.declared.descriptors.Descriptor.{Descriptor}
use Rattle.jvm_pool.specs.declared.descriptors.Descriptor.TheVariants as descriptor

-- a byte that may stand in the internal form of a class name: none of `.`, `;` and `[`
abbrev pub is_name_byte : ℕ → Bool
is_name_byte b = not (b == 46 || b == 59 || b == 91)

-- the internal form of a class name (JVMS SE 8 §4.2.1): identifiers with `/` between them, each of at least one byte
abbrev pub is_class_name : List ℕ → Bool
is_class_name name = list_all is_name_byte name
    && list_all (λ part. nat_lt 0 (length part)) (slice_split (λ b. b == 47) name)

-- the spelling of a field's type
abbrev pub spelled_type : FieldType → List ℕ
spelled_type type.Int = codes "I"
spelled_type type.Long = codes "J"
spelled_type type.Bool = codes "Z"
spelled_type type.Char = codes "C"
spelled_type (type.Class name) = codes "L" ++ name ++ codes ";"
spelled_type type.IntArray = codes "[I"
spelled_type type.ObjectArray = codes "[Ljava/lang/Object;"

-- the spelling of a method's result: no result is `V`
abbrev pub spelled_result : Option FieldType → List ℕ
spelled_result None = codes "V"
spelled_result (Some t) = spelled_type t

-- the spelling of a descriptor
abbrev pub spelled : Descriptor → List ℕ
spelled (descriptor.Field t) = spelled_type t
spelled (descriptor.Method parameters result) = codes "(" ++ flat_map spelled_type parameters.items ++ codes ")"
    ++ spelled_result result

-- a type whose class name is one
abbrev pub IsFieldType : FieldType → Type 0
IsFieldType (type.Class name) = IsTrue (is_class_name name)
IsFieldType _ = Unit {0}

abbrev pub IsResult : Option FieldType → Type 0
IsResult None = Unit {0}
IsResult (Some t) = IsFieldType t

-- each class name in the descriptor is one
abbrev pub IsDescriptor : Descriptor → Type 0
IsDescriptor (descriptor.Field t) = IsFieldType t
IsDescriptor (descriptor.Method parameters result) = All IsFieldType parameters.items × IsResult result

-- the same type, or the same parameters and the same result
abbrev pub IsSameDescriptor : Descriptor → Descriptor → Type 0
IsSameDescriptor (descriptor.Field t) (descriptor.Field u) = t ≡ u
IsSameDescriptor (descriptor.Method ts r) (descriptor.Method us s) = (ts.items ≡ us.items) × (r ≡ s)
IsSameDescriptor _ _ = ⊥

-- the text is the descriptor of a field, or of a method
abbrev pub IsOfField : List ℕ → Type 0
IsOfField text = (t : FieldType) × IsFieldType t × (text ≡ spelled_type t)

abbrev pub IsOfMethod : List ℕ → Type 0
IsOfMethod text =
    (parameters : List FieldType) × (result : Option FieldType) × All IsFieldType parameters × IsResult result
    × (text ≡ codes "(" ++ flat_map spelled_type parameters ++ codes ")" ++ spelled_result result)
