-- The entries of a pool as they stand in the file, with their indices.
use Rattle.std.specs.Prelude.{ℕ, ◌+◌, Bool, false, ◌&&◌, List, [], ◌∷◌, Option, None, Some, ◌==◌, if◌then◌else◌, find}
use Rattle.std.specs.Ordering.{int_eq}
use Rattle.jvm_pool.specs.Entries.{same_text}
use Rattle.jvm_pool.specs.declared.entries.Entry.{Entry}
use Rattle.jvm_pool.specs.declared.entries.Entry.TheVariants as entry
use Rattle.jvm_pool_bytes.specs.declared.tags.Tag.{Tag}
use Rattle.jvm_pool_bytes.specs.declared.tags.Tag.TheVariants as tag
use Rattle.jvm_pool_bytes.specs.declared.raws.RawEntry.{RawEntry}
use Rattle.jvm_pool_bytes.specs.declared.raws.RawEntry.TheVariants as raw
use Rattle.jvm_class_types.specs.Constants.{constant_utf8, constant_integer, constant_long, constant_class, constant_string, constant_fieldref, constant_methodref, constant_interface_methodref, constant_name_and_type}

-- ---- tags

abbrev pub tag_number : Tag → ℕ
tag_number tag.Utf8 = constant_utf8
tag_number tag.Integer = constant_integer
tag_number tag.Long = constant_long
tag_number tag.Class = constant_class
tag_number tag.Text = constant_string
tag_number tag.Field = constant_fieldref
tag_number tag.Method = constant_methodref
tag_number tag.InterfaceMethod = constant_interface_methodref
tag_number tag.NameAndType = constant_name_and_type

unfoldable pub tag_of_number : ℕ → Option Tag
tag_of_number n = find (λ t. n == tag_number t) (tag.Utf8 ∷ tag.Integer ∷ tag.Long ∷ tag.Class ∷ tag.Text ∷ tag.Field
    ∷ tag.Method ∷ tag.InterfaceMethod ∷ tag.NameAndType ∷ [])

abbrev pub raw_tag : RawEntry → Tag
raw_tag (raw.Utf8 text) = tag.Utf8
raw_tag (raw.Int n) = tag.Integer
raw_tag (raw.Long n) = tag.Long
raw_tag (raw.Class i) = tag.Class
raw_tag (raw.Text i) = tag.Text
raw_tag (raw.Field i j) = tag.Field
raw_tag (raw.Method i j) = tag.Method
raw_tag (raw.InterfaceMethod i j) = tag.InterfaceMethod
raw_tag (raw.NameAndType i j) = tag.NameAndType

-- ---- the list of them

abbrev pub raw_size : RawEntry → ℕ
raw_size (raw.Long n) = 2
raw_size _ = 1

abbrev pub raw_units : List RawEntry → ℕ
raw_units [] = 0
raw_units (r ∷ rs) = raw_size r + raw_units rs

-- the indices that an entry has, in order
abbrev pub indices : RawEntry → List ℕ
indices (raw.Class i) = i ∷ []
indices (raw.Text i) = i ∷ []
indices (raw.Field i j) = i ∷ j ∷ []
indices (raw.Method i j) = i ∷ j ∷ []
indices (raw.InterfaceMethod i j) = i ∷ j ∷ []
indices (raw.NameAndType i j) = i ∷ j ∷ []
indices _ = []

abbrev pub same_raw : RawEntry → RawEntry → Bool
same_raw (raw.Utf8 t) (raw.Utf8 u) = same_text t u
same_raw (raw.Int m) (raw.Int n) = int_eq m n
same_raw (raw.Long m) (raw.Long n) = int_eq m n
same_raw (raw.Class i) (raw.Class j) = i == j
same_raw (raw.Text i) (raw.Text j) = i == j
same_raw (raw.Field i j) (raw.Field k l) = i == k && j == l
same_raw (raw.Method i j) (raw.Method k l) = i == k && j == l
same_raw (raw.InterfaceMethod i j) (raw.InterfaceMethod k l) = i == k && j == l
same_raw (raw.NameAndType i j) (raw.NameAndType k l) = i == k && j == l
same_raw _ _ = false

-- the index at which each entry starts, where k is that of the first
abbrev pub raw_starts : ℕ → List RawEntry → List ℕ
raw_starts k [] = []
raw_starts k (r ∷ rs) = k ∷ raw_starts (k + raw_size r) rs

-- the entry that starts at an index, where k is the index of the first
unfoldable pub raw_at : ℕ → List RawEntry → ℕ → Option RawEntry
raw_at k [] i = None
raw_at k (r ∷ rs) i = if i == k then Some r else raw_at (k + raw_size r) rs i

-- ---- what they stand for

module _ (all : List RawEntry) where
  abbrev pub text_in : Option RawEntry → List ℕ
  text_in (Some (raw.Utf8 text)) = text
  text_in _ = []

  abbrev pub text_at : ℕ → List ℕ
  text_at i = text_in (raw_at 1 all i)

  abbrev pub class_in : Option RawEntry → List ℕ
  class_in (Some (raw.Class i)) = text_at i
  class_in _ = []

  abbrev pub class_at : ℕ → List ℕ
  class_at i = class_in (raw_at 1 all i)

  -- the name, and the descriptor
  abbrev pub name_in : Option RawEntry → List ℕ
  name_in (Some (raw.NameAndType i j)) = text_at i
  name_in _ = []

  abbrev pub descriptor_in : Option RawEntry → List ℕ
  descriptor_in (Some (raw.NameAndType i j)) = text_at j
  descriptor_in _ = []

  abbrev pub name_at : ℕ → List ℕ
  name_at i = name_in (raw_at 1 all i)

  abbrev pub descriptor_at : ℕ → List ℕ
  descriptor_at i = descriptor_in (raw_at 1 all i)

  -- the entry that one stands for
  abbrev pub entry_of : RawEntry → Entry
  entry_of (raw.Utf8 text) = entry.Utf8 text
  entry_of (raw.Int n) = entry.Int n
  entry_of (raw.Long n) = entry.Long n
  entry_of (raw.Class i) = entry.Class (text_at i)
  entry_of (raw.Text i) = entry.Text (text_at i)
  entry_of (raw.Field i j) = entry.Field (class_at i) (name_at j) (descriptor_at j)
  entry_of (raw.Method i j) = entry.Method (class_at i) (name_at j) (descriptor_at j)
  entry_of (raw.InterfaceMethod i j) = entry.InterfaceMethod (class_at i) (name_at j) (descriptor_at j)
  entry_of (raw.NameAndType i j) = entry.NameAndType (text_at i) (text_at j)
