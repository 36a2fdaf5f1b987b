-- Reading a constant pool: entry by entry as they stand in the file, then each judged by the kinds of its parts.
use Rattle.std.specs.Prelude.{◌≡◌, ℕ, zero, suc, ◌+◌, ◌-◌, Bool, true, false, not, ◌&&◌, ◌||◌, List, [], ◌∷◌, ◌++◌, length, take, drop, map, Option, None, Some, option_map, Result, Ok, Err, nat_lt, nat_le, if◌then◌else◌}
use Rattle.std.specs.Int.{w8, w16, w32, w64, cast_signed, cast_unsigned}
use Rattle.std.specs.List.{list_any}
use Rattle.std.specs.Ordering.{int_eq}
use Rattle.jvm_pool.specs.declared.entries.Entry.{Entry}
use Rattle.jvm_pool.specs.Modified.{modified, IsText}
use Rattle.jvm_pool.specs.ModifiedReading.{first_unit}
use Rattle.jvm_pieces.specs.Pieces.{Bytes}
use Rattle.jvm_class_formats.specs.Formats.{Spot, spot, here, Format, ◌>>=◌, any, number, number_at, u2, u4, seq, as_named, variant, item}
use Rattle.jvm_pool_bytes.specs.declared.tags.Tag.{Tag}
use Rattle.jvm_pool_bytes.specs.declared.tags.Tag.TheVariants as tag
use Rattle.jvm_pool_bytes.specs.declared.raws.RawEntry.{RawEntry}
use Rattle.jvm_pool_bytes.specs.declared.raws.RawEntry.TheVariants as raw
use Rattle.jvm_pool_bytes.specs.Names.{is_name, is_field_descriptor, is_method_descriptor}
use Rattle.jvm_pool_bytes.specs.Raws.{tag_number, tag_of_number, raw_tag, raw_size, raw_units, same_raw, raw_at, entry_of}

-- ---- texts

abbrev pub with_unit : Option (ℕ × List ℕ) → (List ℕ → Option (List ℕ)) → Option (List ℕ)
with_unit None more = None
with_unit (Some u) more = option_map (λ t. u.0 ∷ t) (more u.1)

-- the text that bytes spell; n bounds its units
abbrev pub text_of : ℕ → List ℕ → Option (List ℕ)
text_of n [] = Some []
text_of zero (b ∷ bytes) = None
text_of (suc n) (b ∷ bytes) = with_unit (first_unit (b ∷ bytes)) (text_of n)

abbrev pub spelled_text : Spot → ℕ → Option (List ℕ) → Result (List ℕ × Spot) ℕ
spelled_text s n None = Err (here s)
spelled_text s n (Some t) = Ok (t, spot s.total s.counter (drop n s.bytes))

-- a text of so many bytes
abbrev pub chars : ℕ → Format (List ℕ)
chars n = record {
  allows = λ t. IsText t × (length (modified t) ≡ n);
  spell = λ t. Bytes (modified t) ∷ [];
  read = λ s. if nat_lt (length s.bytes) n then Err s.total else spelled_text s n (text_of n (take n s.bytes));
}

abbrev pub text : Format (List ℕ)
text = as_named (λ x. x.1) (λ t. (length (modified t), t)) (seq u2 chars)

-- ---- entries

abbrev pub utf8_inside : RawEntry → Option (List ℕ)
utf8_inside (raw.Utf8 t) = Some t
utf8_inside _ = None

abbrev pub int_inside : RawEntry → Option ℕ
int_inside (raw.Int n) = if int_eq (cast_signed w32 (cast_unsigned w32 n)) n then Some (cast_unsigned w32 n) else None
int_inside _ = None

abbrev pub long_inside : RawEntry → Option ℕ
long_inside (raw.Long n) = if int_eq (cast_signed w64 (cast_unsigned w64 n)) n then Some (cast_unsigned w64 n) else None
long_inside _ = None

abbrev pub class_inside : RawEntry → Option ℕ
class_inside (raw.Class i) = Some i
class_inside _ = None

abbrev pub text_inside : RawEntry → Option ℕ
text_inside (raw.Text i) = Some i
text_inside _ = None

abbrev pub field_inside : RawEntry → Option (ℕ × ℕ)
field_inside (raw.Field i j) = Some (i, j)
field_inside _ = None

abbrev pub method_inside : RawEntry → Option (ℕ × ℕ)
method_inside (raw.Method i j) = Some (i, j)
method_inside _ = None

abbrev pub interface_method_inside : RawEntry → Option (ℕ × ℕ)
interface_method_inside (raw.InterfaceMethod i j) = Some (i, j)
interface_method_inside _ = None

abbrev pub name_and_type_inside : RawEntry → Option (ℕ × ℕ)
name_and_type_inside (raw.NameAndType i j) = Some (i, j)
name_and_type_inside _ = None

abbrev pub u8 : Format ℕ
u8 = number w64 any

abbrev pub two : Format (ℕ × ℕ)
two = seq u2 (λ i. u2)

-- what stands behind a tag
abbrev pub tagged : Tag → Format RawEntry
tagged tag.Utf8 = variant raw.Utf8 utf8_inside text
tagged tag.Integer = variant (λ n. raw.Int (cast_signed w32 n)) int_inside u4
tagged tag.Long = variant (λ n. raw.Long (cast_signed w64 n)) long_inside u8
tagged tag.Class = variant raw.Class class_inside u2
tagged tag.Text = variant raw.Text text_inside u2
tagged tag.Field = variant (λ p. raw.Field p.0 p.1) field_inside two
tagged tag.Method = variant (λ p. raw.Method p.0 p.1) method_inside two
tagged tag.InterfaceMethod = variant (λ p. raw.InterfaceMethod p.0 p.1) interface_method_inside two
tagged tag.NameAndType = variant (λ p. raw.NameAndType p.0 p.1) name_and_type_inside two

-- what stands behind a number that is a tag, and nothing behind any other
abbrev pub behind_tag : Option Tag → Format RawEntry
behind_tag None = record { allows = λ r. ⊥; spell = λ r. []; read = λ s. Err (here s) }
behind_tag (Some t) = tagged t

abbrev pub is_some_tag : Option Tag → Bool
is_some_tag None = false
is_some_tag (Some t) = true

abbrev pub is_tag : ℕ → Bool
is_tag n = is_some_tag (tag_of_number n)

-- a tag, and what stands behind it
abbrev pub unplaced : Format RawEntry
unplaced = as_named (λ x. x.1) (λ r. (tag_number (raw_tag r), r))
    (seq (number w8 is_tag) (λ n. behind_tag (tag_of_number n)))

-- an entry is one item
abbrev pub raw_entry : Format RawEntry
raw_entry = item unplaced

-- a tag behind which two indices stand
abbrev pub HasTwo : Tag → Type 0
HasTwo tag.Field = Unit {0}
HasTwo tag.Method = Unit {0}
HasTwo tag.InterfaceMethod = Unit {0}
HasTwo tag.NameAndType = Unit {0}
HasTwo _ = ⊥

-- ---- the entries, one behind the other

-- the entries that can be read, each with its offset, and what is behind them or where they stop
abbrev pub Stretch : Type 0
Stretch = List (ℕ × RawEntry) × Result Spot ℕ

abbrev pub in_front : ℕ × RawEntry → Stretch → Stretch
in_front r more = (r ∷ more.0, more.1)

-- an entry is refused where it needs more indices than are left, or stands already
abbrev pub is_refused : ℕ → List RawEntry → RawEntry → Bool
is_refused left before r = nat_lt left (raw_size r) || list_any (same_raw r) before

abbrev pub behind_raw : ℕ → ℕ → List RawEntry → Result (RawEntry × Spot) ℕ → (RawEntry → Spot → Stretch) → Stretch
behind_raw at left before (Err stop) more = ([], Err stop)
behind_raw at left before (Ok x) more =
    if is_refused left before x.0 then ([], Err at) else in_front (at, x.0) (more x.0 x.1)

-- the entries that take the indices that are left, behind these entries; n bounds their number
unfoldable pub raws_at : ℕ → ℕ → List RawEntry → Spot → Stretch
raws_at n zero before s = ([], Ok s)
raws_at zero (suc left) before s = ([], Err (here s))
raws_at (suc n) (suc left) before s =
    behind_raw (here s) (suc left) before (raw_entry.read s)
    (λ r rest. raws_at n (suc left - raw_size r) (before ++ r ∷ []) rest)

-- ---- the rule of an entry

module _ (all : List RawEntry) (count : ℕ) where
  -- an index below the count whose entry wasn't read isn't judged
  abbrev pub is_kind : (RawEntry → Bool) → ℕ → Option RawEntry → Bool
  is_kind kind i None = nat_le (1 + raw_units all) i && nat_lt i count
  is_kind kind i (Some r) = kind r

  abbrev pub names : (RawEntry → Bool) → ℕ → Bool
  names kind i = is_kind kind i (raw_at 1 all i)

  abbrev pub is_text : (List ℕ → Bool) → RawEntry → Bool
  is_text rule (raw.Utf8 t) = rule t
  is_text rule _ = false

  abbrev pub is_class : RawEntry → Bool
  is_class (raw.Class i) = true
  is_class _ = false

  -- a text that was read keeps the rule
  abbrev pub text_keeps : (List ℕ → Bool) → Option RawEntry → Bool
  text_keeps rule (Some (raw.Utf8 t)) = rule t
  text_keeps rule _ = true

  -- a name with a descriptor that isn't one of the other kind
  abbrev pub is_pair : (List ℕ → Bool) → RawEntry → Bool
  is_pair other (raw.NameAndType i j) = text_keeps (λ t. not (other t)) (raw_at 1 all j)
  is_pair other _ = false

  abbrev pub fits : RawEntry → Bool
  fits (raw.Utf8 t) = true
  fits (raw.Int n) = true
  fits (raw.Long n) = true
  fits (raw.Class i) = names (is_text is_name) i
  fits (raw.Text i) = names (is_text (λ t. true)) i
  fits (raw.Field i j) = names is_class i && names (is_pair is_method_descriptor) j
  fits (raw.Method i j) = names is_class i && names (is_pair is_field_descriptor) j
  fits (raw.InterfaceMethod i j) = names is_class i && names (is_pair is_field_descriptor) j
  fits (raw.NameAndType i j) = names (is_text is_name) i
      && names (is_text (λ t. is_field_descriptor t || is_method_descriptor t)) j

  -- the offset of the first entry one of whose parts isn't of its kind
  abbrev pub first_misfit : List (ℕ × RawEntry) → Option ℕ
  first_misfit [] = None
  first_misfit (r ∷ rs) = if fits r.1 then first_misfit rs else Some r.0

-- ---- the pool

abbrev pub raws_of : List (ℕ × RawEntry) → List RawEntry
raws_of xs = map (λ x. x.1) xs

abbrev pub entries_of : List RawEntry → List Entry
entries_of rs = map (entry_of rs) rs

abbrev pub unless_misfit : Stretch → Option ℕ → Result (List Entry × Spot) ℕ
unless_misfit x (Some at) = Err at
unless_misfit x None = x.1 >>= λ s. Ok (entries_of (raws_of x.0), s)

-- the first entry that breaks its rule, else where the entries stop, else what the entries stand for
abbrev pub judged : ℕ → Stretch → Result (List Entry × Spot) ℕ
judged count x = unless_misfit x (first_misfit (raws_of x.0) count x.0)

-- the count, which is one more than the last index, and the entries
unfoldable pub pool_at : Spot → Result (List Entry × Spot) ℕ
pool_at s = number_at w16 (λ n. nat_lt 0 n) s >>= λ n. judged n.0 (raws_at (n.0 - 1) (n.0 - 1) [] n.1)
