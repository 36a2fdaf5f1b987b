-- What the entries must be that are mentioned, by the place of the mention (JVMS SE 8 §4.1 to §4.7, §6.5).
use Rattle.std.specs.Prelude.{ℕ, zero, suc, ◌+◌, Bool, true, false, List, [], ◌∷◌, length, Option, None, Some, ◌==◌, if◌then◌else◌, codes}
use Rattle.jvm_code_instructions.specs.Table.{Operands, Half, Called}
use Rattle.jvm_pool.specs.declared.entries.Entry.{Entry}
use Rattle.jvm_pool.specs.declared.entries.Entry.TheVariants as entry
use Rattle.jvm_pool.specs.declared.descriptors.FieldType.{FieldType}
use Rattle.jvm_pool.specs.declared.descriptors.FieldType.TheVariants as field_type
use Rattle.jvm_pool.specs.DescriptorReading.{first_type}
use Rattle.jvm_pool.specs.Entries.{same_text}
use Rattle.jvm_pool_bytes.specs.Names.{is_name, is_field_descriptor, is_method_descriptor}
use Rattle.jvm_class_grammar.specs.declared.kinds.EntryKind.{EntryKind}
use Rattle.jvm_class_grammar.specs.declared.kinds.EntryKind.TheVariants as kind

-- ---- the parameters of a method

-- n bounds the types
unfoldable pub types_before_close : ℕ → List ℕ → List FieldType
types_before_close n [] = []
types_before_close zero (b ∷ rest) = []
types_before_close (suc n) (b ∷ rest) =
    if b == 41 then [] else elim (first_type (b ∷ rest)) [ None ↦ [] | Some x ↦ x.0 ∷ types_before_close n x.1 ]

-- the types of the parameters that a descriptor has
abbrev pub parameters : List ℕ → List FieldType
parameters [] = []
parameters (b ∷ rest) = types_before_close (length rest) rest

abbrev pub type_units : FieldType → ℕ
type_units field_type.Long = 2
type_units _ = 1

abbrev pub units_of : List FieldType → ℕ
units_of [] = 0
units_of (t ∷ ts) = type_units t + units_of ts

-- ---- instructions

abbrev pub text_is : List ℕ → List ℕ → Bool
text_is wanted text = same_text text wanted

abbrev pub is_of : EntryKind → Entry → Bool
is_of kind.Loaded (entry.Int n) = true
is_of kind.Loaded (entry.Text text) = true
is_of kind.Long (entry.Long n) = true
is_of kind.Field (entry.Field class name descriptor) = true
is_of kind.Method (entry.Method class name descriptor) = true
is_of kind.Class (entry.Class name) = true
is_of kind.ObjectClass (entry.Class name) = text_is (codes "java/lang/Object") name
is_of _ _ = false

-- the opcodes that have the index of an entry in two bytes, and the kind that each needs
unfoldable pub kind_of_opcode : ℕ → Option EntryKind
kind_of_opcode c =
    if c == 0x13 then Some kind.Loaded else
    if c == 0x14 then Some kind.Long else
    if c == 0xb4 then Some kind.Field else
    if c == 0xb5 then Some kind.Field else
    if c == 0xb6 then Some kind.Method else
    if c == 0xb7 then Some kind.Method else
    if c == 0xb8 then Some kind.Method else
    if c == 0xbb then Some kind.Class else
    if c == 0xc0 then Some kind.Class else
    if c == 0xc1 then Some kind.Class else
    if c == 0xbd then Some kind.ObjectClass else
    None

-- a method of an interface whose arguments, with the receiver, take so many units
abbrev pub is_called : ℕ → Entry → Bool
is_called count (entry.InterfaceMethod class name descriptor) = count == 1 + units_of (parameters descriptor)
is_called count _ = false

-- a mention: its index, and which entries it may name
abbrev pub Needed : Type 0
Needed = ℕ × (Entry → Bool)

abbrev pub needed_at : ℕ → Option EntryKind → Option Needed
needed_at index None = None
needed_at index (Some k) = Some (index, is_of k)

-- the mention in an instruction
abbrev pub needed : ℕ → Operands → Option Needed
needed opcode (Half index) = needed_at index (kind_of_opcode opcode)
needed opcode (Called index count) = Some (index, is_called count)
needed opcode _ = None

-- ---- names and descriptors

abbrev pub if_so : Bool → List ℕ → Option (List ℕ)
if_so true text = Some text
if_so false text = None

abbrev pub name_inside : Entry → Option (List ℕ)
name_inside (entry.Utf8 text) = if_so (is_name text) text
name_inside _ = None

abbrev pub field_descriptor_inside : Entry → Option (List ℕ)
field_descriptor_inside (entry.Utf8 text) = if_so (is_field_descriptor text) text
field_descriptor_inside _ = None

abbrev pub method_descriptor_inside : Entry → Option (List ℕ)
method_descriptor_inside (entry.Utf8 text) = if_so (is_method_descriptor text) text
method_descriptor_inside _ = None

-- the name of an attribute
abbrev pub this_text : List ℕ → Entry → Option (List ℕ)
this_text wanted (entry.Utf8 text) = if_so (text_is wanted text) text
this_text wanted _ = None
