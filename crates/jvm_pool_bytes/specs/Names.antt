-- Names and descriptors among texts (JVMS SE 8 §4.2, §4.3).
use Rattle.std.specs.Prelude.{ℕ, zero, suc, Bool, false, ◌&&◌, ◌||◌, List, [], ◌∷◌, length, Option, None, Some, nat_lt, ◌==◌, if◌then◌else◌, codes}
use Rattle.std.specs.List.{list_all}
use Rattle.jvm_pool.specs.Entries.{same_text}
use Rattle.jvm_pool.specs.declared.descriptors.FieldType.{FieldType}
use Rattle.jvm_pool.specs.DescriptorReading.{first_type}

abbrev pub is_ascii : List ℕ → Bool
is_ascii text = list_all (λ unit. nat_lt unit 128) text

-- a name isn't empty, and each of its units is ASCII
abbrev pub is_name : List ℕ → Bool
is_name text = nat_lt 0 (length text) && is_ascii text

-- a type, and nothing behind it
abbrev pub is_last : Option (FieldType × List ℕ) → Bool
is_last None = false
is_last (Some found) = length found.1 == 0

-- the descriptor of a field (§4.3.2)
abbrev pub is_field_descriptor : List ℕ → Bool
is_field_descriptor text = is_ascii text && is_last (first_type text)

-- the result of a method
abbrev pub is_result : List ℕ → Bool
is_result text = same_text text (codes "V") || is_last (first_type text)

-- types, a `)` and a result; n bounds the types
abbrev pub behind_type : Option (FieldType × List ℕ) → (List ℕ → Bool) → Bool
behind_type None more = false
behind_type (Some found) more = more found.1

unfoldable pub are_parameters : ℕ → List ℕ → Bool
are_parameters n [] = false
are_parameters zero (b ∷ rest) = if b == 41 then is_result rest else false
are_parameters (suc n) (b ∷ rest) =
    if b == 41 then is_result rest else behind_type (first_type (b ∷ rest)) (are_parameters n)

abbrev pub opened : List ℕ → Bool
opened [] = false
opened (b ∷ rest) = b == 40 && are_parameters (length rest) rest

-- the descriptor of a method (§4.3.3)
abbrev pub is_method_descriptor : List ℕ → Bool
is_method_descriptor text = is_ascii text && opened text
