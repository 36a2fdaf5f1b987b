-- The field type at the front of bytes, and the bytes behind it.
use Rattle.std.specs.Prelude.{◌≡◌, ℕ, ◌+◌, Bool, false, List, [], ◌∷◌, take, drop, Option, Some, None, Result, Ok, Err, ◌==◌, codes, if◌then◌else◌}
use Rattle.std.specs.List.{position}
use Rattle.jvm_pool.specs.declared.errors.DescriptorErr.{DescriptorErr}
use Rattle.jvm_pool.specs.declared.errors.DescriptorErr.TheVariants as error
use Rattle.jvm_pool.specs.declared.descriptors.FieldType.{FieldType}
use Rattle.jvm_pool.specs.declared.descriptors.FieldType.TheVariants as type
use Rattle.jvm_pool.specs.declared.descriptors.Descriptor.{Descriptor}
use Rattle.jvm_pool.specs.Descriptors.{is_class_name, spelled, IsDescriptor}

-- what stands behind a prefix
abbrev pub behind_prefix : List ℕ → List ℕ → Option (List ℕ)
behind_prefix [] bytes = Some bytes
behind_prefix (p ∷ prefix) [] = None
behind_prefix (p ∷ prefix) (b ∷ bytes) = if b == p then behind_prefix prefix bytes else None

-- the class name that ends at a `;`
abbrev pub class_before : List ℕ → Option ℕ → Option (List ℕ × List ℕ)
class_before bytes None = None
class_before bytes (Some end) = if is_class_name (take end bytes)
    then Some (take end bytes, drop (end + 1) bytes) else None

-- the class name before the first `;`
abbrev pub first_class : List ℕ → Option (List ℕ × List ℕ)
first_class bytes = class_before bytes (position (λ b. b == 59) bytes)

-- the array type whose `[` stands before the bytes
abbrev pub array_of : Option (List ℕ) → Option (List ℕ) → Option (FieldType × List ℕ)
array_of (Some rest) _ = Some (type.IntArray, rest)
array_of None (Some rest) = Some (type.ObjectArray, rest)
array_of None None = None

abbrev pub first_array : List ℕ → Option (FieldType × List ℕ)
first_array bytes = array_of (behind_prefix (codes "I") bytes) (behind_prefix (codes "Ljava/lang/Object;") bytes)

abbrev pub base_type : ℕ → Option FieldType
base_type b =
    if b == 73 then Some type.Int else
    if b == 74 then Some type.Long else
    if b == 90 then Some type.Bool else
    if b == 67 then Some type.Char else
    None

abbrev pub class_type : Option (List ℕ × List ℕ) → Option (FieldType × List ℕ)
class_type None = None
class_type (Some found) = Some (type.Class found.0, found.1)

abbrev pub with_rest : List ℕ → Option FieldType → Option (FieldType × List ℕ)
with_rest rest None = None
with_rest rest (Some t) = Some (t, rest)

abbrev pub type_behind : ℕ → List ℕ → Option (FieldType × List ℕ)
type_behind b rest = if b == 76 then class_type (first_class rest) else if b == 91 then first_array rest
    else with_rest rest (base_type b)

abbrev pub first_type : List ℕ → Option (FieldType × List ℕ)
first_type [] = None
first_type (b ∷ rest) = type_behind b rest

-- An answer to what stands at the front: nothing else is `Bad`.
abbrev pub Answers : {A B : Type 0} → (A → B) → Result A DescriptorErr → Option B → Type 0
Answers view (Ok x) found = found ≡ Some (view x)
Answers view (Err error.Bad) found = found ≡ None
Answers view (Err error.NoMemory) found = Unit {0}

abbrev pub begins_with : ℕ → List ℕ → Bool
begins_with b [] = false
begins_with b (first ∷ bytes) = first == b

-- no descriptor has this spelling
abbrev pub SpellsNone : List ℕ → Type 0
SpellsNone bytes = (d : Descriptor) → IsDescriptor d → bytes ≡ spelled d → ⊥
