-- The types in stack map frames (JVMS SE 8 §4.7.4), as parts of a class file.
use Rattle.std.specs.Prelude.{◌≡◌, ℕ, Bool, true, false, ◌||◌, List, [], ◌∷◌, Option, None, Some, is_some, Result, Ok, Err, ◌==◌, find}
use Rattle.std.specs.Int.{w8}
use Rattle.std.specs.Cmp.Lexicographic.{pointwise}
use Rattle.jvm_pool.specs.declared.entries.Entry.{Entry}
use Rattle.jvm_pool.specs.declared.entries.Entry.TheVariants.{Class}
use Rattle.jvm_pool.specs.Entries.{same_text}
use Rattle.jvm_class_types.specs.declared.frames.FrameType.{FrameType}
use Rattle.jvm_class_types.specs.declared.frames.FrameType.TheVariants as type
use Rattle.jvm_class_types.specs.Constants.{item_top, item_integer, item_long, item_null, item_uninitialized_this, item_object, item_uninitialized}
use Rattle.jvm_class_formats.specs.Formats.{Spot, here, Format, number, u2, mention, seq, as_named, variant, choose}

abbrev pub same_type : FrameType → FrameType → Bool
same_type type.Top type.Top = true
same_type type.Integer type.Integer = true
same_type type.Long type.Long = true
same_type type.Null type.Null = true
same_type type.UninitializedThis type.UninitializedThis = true
same_type (type.Object name) (type.Object other) = same_text name other
same_type (type.Uninitialized at) (type.Uninitialized other) = at == other
same_type _ _ = false

abbrev pub same_types : List FrameType → List FrameType → Bool
same_types = pointwise same_type

abbrev pub type_tag : FrameType → ℕ
type_tag type.Top = item_top
type_tag type.Integer = item_integer
type_tag type.Long = item_long
type_tag type.Null = item_null
type_tag type.UninitializedThis = item_uninitialized_this
type_tag (type.Object name) = item_object
type_tag (type.Uninitialized at) = item_uninitialized

-- the type that a tag alone is
abbrev pub bare_types : List FrameType
bare_types = type.Top ∷ type.Integer ∷ type.Long ∷ type.Null ∷ type.UninitializedThis ∷ []

unfoldable pub bare_type : ℕ → Option FrameType
bare_type tag = find (λ t. tag == type_tag t) bare_types

abbrev pub bare_read : Spot → Option FrameType → Result (FrameType × Spot) ℕ
bare_read s None = Err (here s)
bare_read s (Some t) = Ok (t, s)

abbrev pub bare : ℕ → Format FrameType
bare tag = record { allows = λ t. bare_type tag ≡ Some t; spell = λ t. []; read = λ s. bare_read s (bare_type tag) }

-- the name of a class that an entry is
abbrev pub class_inside : Entry → Option (List ℕ)
class_inside (Class name) = Some name
class_inside _ = None

abbrev pub object_inside : FrameType → Option (List ℕ)
object_inside (type.Object name) = Some name
object_inside _ = None

abbrev pub uninitialized_inside : FrameType → Option ℕ
uninitialized_inside (type.Uninitialized at) = Some at
uninitialized_inside _ = None

-- whether a number is the tag of a type
abbrev pub is_type_tag : ℕ → Bool
is_type_tag tag = tag == item_object || (tag == item_uninitialized || is_some (bare_type tag))

module _ (es : List Entry) where
  abbrev pub class_name : Format (List ℕ)
  class_name = mention es Class class_inside

  -- what stands behind a tag
  abbrev pub behind_tag : ℕ → Format FrameType
  behind_tag tag =
      choose (tag == item_object) (variant type.Object object_inside class_name) (
      choose (tag == item_uninitialized) (variant type.Uninitialized uninitialized_inside u2) (
      bare tag))

  -- verification_type_info
  abbrev pub frame_type : Format FrameType
  frame_type = as_named (λ x. x.1) (λ t. (type_tag t, t)) (seq (number w8 is_type_tag) behind_tag)
