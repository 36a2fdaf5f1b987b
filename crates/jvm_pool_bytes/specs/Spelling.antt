-- The bytes of a constant pool (JVMS SE 8 §4.1, §4.4).
use Rattle.std.specs.Prelude.{◌≡◌, ℕ, ◌+◌, ◌^◌, ◌<◌, true, ◌||◌, List, [], ◌∷◌, ◌++◌, length, FitsSigned}
use Rattle.std.specs.Int.{w16, w32, w64, to_be_bytes, cast_unsigned}
use Rattle.std.specs.List.{flat_map, AllByRecursion}
use Rattle.jvm_pool.specs.declared.entries.Entry.{Entry}
use Rattle.jvm_pool.specs.declared.entries.Entry.TheVariants.{Utf8, Int, Long, Class, Text, Field, Method, InterfaceMethod, NameAndType}
use Rattle.jvm_pool.specs.Entries.{units}
use Rattle.jvm_pool.specs.Mentions.{has}
use Rattle.jvm_pool.specs.Numbering.{AreDifferent}
use Rattle.jvm_pool.specs.Modified.{modified, IsText}
use Rattle.jvm_pieces.specs.Pieces.{index}
use Rattle.jvm_class_types.specs.Constants.{constant_utf8, constant_integer, constant_long, constant_class, constant_string, constant_fieldref, constant_methodref, constant_interface_methodref, constant_name_and_type}
use Rattle.jvm_pool_bytes.specs.Names.{is_name, is_field_descriptor, is_method_descriptor}

abbrev pub tag : Entry → ℕ
tag (Utf8 text) = constant_utf8
tag (Int n) = constant_integer
tag (Long n) = constant_long
tag (Class name) = constant_class
tag (Text text) = constant_string
tag (Field class name descriptor) = constant_fieldref
tag (Method class name descriptor) = constant_methodref
tag (InterfaceMethod class name descriptor) = constant_interface_methodref
tag (NameAndType name descriptor) = constant_name_and_type

-- the entries whose indices an entry has, in order
abbrev pub parts : Entry → List Entry
parts (Utf8 text) = []
parts (Int n) = []
parts (Long n) = []
parts (Class name) = Utf8 name ∷ []
parts (Text text) = Utf8 text ∷ []
parts (Field class name descriptor) = Class class ∷ NameAndType name descriptor ∷ []
parts (Method class name descriptor) = Class class ∷ NameAndType name descriptor ∷ []
parts (InterfaceMethod class name descriptor) = Class class ∷ NameAndType name descriptor ∷ []
parts (NameAndType name descriptor) = Utf8 name ∷ Utf8 descriptor ∷ []

-- the bytes of a text, behind its length, and of a number
abbrev pub value : Entry → List ℕ
value (Utf8 text) = to_be_bytes w16 (length (modified text)) ++ modified text
value (Int n) = to_be_bytes w32 (cast_unsigned w32 n)
value (Long n) = to_be_bytes w64 (cast_unsigned w64 n)
value _ = []

-- an entry in a pool: its tag, its text or number, and the indices of its parts
abbrev pub cp_info : List Entry → Entry → List ℕ
cp_info es e = tag e ∷ value e ++ flat_map (λ p. to_be_bytes w16 (index es p)) (parts e)

-- constant_pool_count and constant_pool
abbrev pub pool : List Entry → List ℕ
pool es = to_be_bytes w16 (1 + units es) ++ flat_map (cp_info es) es

-- ---- which entries a pool may have

-- a text whose length fits two bytes; names are not empty and ASCII, and descriptors those of a field or a method
abbrev pub IsEntry : Entry → Type 0
IsEntry (Utf8 text) = IsText text × (length (modified text) < 2 ^ 16)
IsEntry (Int n) = FitsSigned w32 n
IsEntry (Long n) = FitsSigned w64 n
IsEntry (Class name) = is_name name ≡ true
IsEntry (Text text) = Unit {0}
IsEntry (Field class name descriptor) = is_field_descriptor descriptor ≡ true
IsEntry (Method class name descriptor) = is_method_descriptor descriptor ≡ true
IsEntry (InterfaceMethod class name descriptor) = is_method_descriptor descriptor ≡ true
IsEntry (NameAndType name descriptor) =
    (is_name name ≡ true) × ((is_field_descriptor descriptor || is_method_descriptor descriptor) ≡ true)

abbrev pub AreEntries : List Entry → Type 0
AreEntries es = AllByRecursion IsEntry es

-- each part of the entry is among the entries
abbrev pub HasParts : List Entry → Entry → Type 0
HasParts es e = (p : Entry) → has (parts e) p ≡ true → has es p ≡ true

-- the entries of a pool: they differ, each has its parts among them, and their count fits two bytes
pub record IsPool (es : List Entry) : Type 0 where
  pub entries : AreEntries es
  pub different : AreDifferent es
  pub whole : (e : Entry) → has es e ≡ true → HasParts es e
  pub count : 1 + units es < 2 ^ 16
