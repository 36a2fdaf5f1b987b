-- The class file of a program that only prints numbers, byte for byte (JVMS SE 8 §4.1).
use Rattle.std.specs.Prelude.{◌≡◌, ℕ, ◌+◌, ◌^◌, ◌<◌, true, List, [], ◌∷◌, ◌++◌, length, codes, FitsSigned}
use Rattle.std.specs.Int.{w16, w32, to_be_bytes, cast_unsigned}
use Rattle.std.specs.List.{flat_map}
use Rattle.kt_base.specs.declared.stack_code.Plain.{Plain}
use Rattle.jvm_pool.specs.declared.entries.Entry.{Entry}
use Rattle.jvm_pool.specs.declared.entries.Entry.TheVariants.{Utf8, Int, Class, Method, NameAndType}
use Rattle.jvm_pool.specs.Entries.{behind, units}
use Rattle.jvm_pool.specs.Mentions.{has}
use Rattle.jvm_pool.specs.Modified.{modified}
use Rattle.jvm_pieces.specs.Pieces.{Piece, Bytes, Mention, index, Spells}
use Rattle.jvm_class_first.specs.Instructions.{instructions, max_stack, IsPlainCode}

-- ---- the constant pool (§4.4)

abbrev pub u2 : ℕ → List ℕ
u2 n = to_be_bytes w16 n

abbrev pub u4 : ℕ → List ℕ
u4 n = to_be_bytes w32 n

-- an entry in a pool: its tag, then its text behind its length, its number, or the indices of its parts
abbrev pub cp_info : List Entry → Entry → List ℕ
cp_info es (Utf8 text) = 1 ∷ u2 (length (modified text)) ++ modified text
cp_info es (Int n) = 3 ∷ u4 (cast_unsigned w32 n)
cp_info es (Class name) = 7 ∷ u2 (index es (Utf8 name))
cp_info es (Method class name descriptor) = 10
    ∷ u2 (index es (Class class)) ++ u2 (index es (NameAndType name descriptor))
cp_info es (NameAndType name descriptor) = 12 ∷ u2 (index es (Utf8 name)) ++ u2 (index es (Utf8 descriptor))
cp_info es _ = []

-- the entry is of a kind that these classes have, and its text or number fits
abbrev pub IsOfPlain : Entry → Type 0
IsOfPlain (Utf8 text) = length (modified text) < 2 ^ 16
IsOfPlain (Int n) = FitsSigned w32 n
IsOfPlain (Class name) = Unit {0}
IsOfPlain (Method class name descriptor) = Unit {0}
IsOfPlain (NameAndType name descriptor) = Unit {0}
IsOfPlain _ = ⊥

abbrev pub AreOfPlain : List Entry → Type 0
AreOfPlain [] = Unit {0}
AreOfPlain (e ∷ es) = IsOfPlain e × AreOfPlain es

-- each part of the entry is among the entries
abbrev pub HasParts : List Entry → Entry → Type 0
HasParts es e = (p : Entry) → has (behind e) p ≡ true → has es p ≡ true

-- each part of each entry is among the entries
abbrev pub IsClosed : List Entry → Type 0
IsClosed es = (e : Entry) → has es e ≡ true → HasParts es e

-- constant_pool_count and constant_pool
abbrev pub pool : List Entry → List ℕ
pool es = u2 (1 + units es) ++ flat_map (cp_info es) es

-- ---- behind the pool

-- how many bytes a piece takes
abbrev pub width : Piece → ℕ
width (Bytes bytes) = length bytes
width (Mention e) = 2

abbrev pub widths : List Piece → ℕ
widths [] = 0
widths (p ∷ ps) = width p + widths ps

-- pieces behind their length
abbrev pub sized : List Piece → List Piece
sized ps = Bytes (u4 (widths ps)) ∷ ps

abbrev pub number : ℕ → Piece
number n = Bytes (u2 n)

-- the attribute that has the code (§4.7.3): no locals, no exception table, no attributes
abbrev pub code_attribute : List Plain → List Piece
code_attribute code =
    Mention (Utf8 (codes "Code")) ∷ sized
    (number (max_stack code) ∷ number 0 ∷ (sized (instructions code) ++ number 0 ∷ number 0 ∷ []))

-- public static main()V (§4.6)
abbrev pub method_info : List Plain → List Piece
method_info code = number 0x0009 ∷ Mention (Utf8 (codes "main")) ∷ Mention (Utf8 (codes "()V")) ∷ number 1
    ∷ code_attribute code

-- public final class MainKt extends Object: no interfaces, no fields, one method, no attributes
abbrev pub class_pieces : List Plain → List Piece
class_pieces code =
    number 0x0031 ∷ Mention (Class (codes "MainKt")) ∷ Mention (Class (codes "java/lang/Object")) ∷ number 0
    ∷ number 0 ∷ number 1 ∷ (method_info code ++ number 0 ∷ [])

-- ---- the file

abbrev pub magic : List ℕ
magic = u4 0xCAFEBABE

-- minor_version 0, major_version 52
abbrev pub version : List ℕ
version = u2 0 ++ u2 52

-- The bytes are the class file of this code: magic, version, pool, and what stands behind it, with the entries of the
-- pool in the order of their first mention.
pub record IsClassOf (bytes : List ℕ) (code : List Plain) : Type 0 where
  pub entries : List Entry
  pub behind : List ℕ
  pub code_is : IsPlainCode code
  pub kinds : AreOfPlain entries
  pub count : 1 + units entries < 2 ^ 16
  pub spells : Spells entries behind (class_pieces code)
  pub bytes_are : bytes ≡ magic ++ (version ++ (pool entries ++ behind))
