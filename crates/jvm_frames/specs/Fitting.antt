-- The pieces of frames, and which numbers of theirs fit their bytes.
use Rattle.std.specs.Prelude.{◌≡◌, ℕ, ◌^◌, ◌<◌, List, [], ◌∷◌, ◌++◌, length, slice_get, Some}
use Rattle.std.specs.Int.{w8, w16, to_be_bytes}
use Rattle.std.specs.List.{flat_map}
use Rattle.jvm_pool.specs.declared.entries.Entry.TheVariants.{Class}
use Rattle.jvm_pieces.specs.Pieces.{Piece, Bytes, Mention}
use Rattle.jvm_class_types.specs.declared.frames.FrameType.{FrameType}
use Rattle.jvm_class_types.specs.declared.frames.FrameType.TheVariants as type
use Rattle.jvm_maps.specs.Types.{type_tag}
use Rattle.jvm_maps.specs.Frames.{Form, Same, SameOne, SameOneFar, Chop, SameFar, Append, Full, kind_of, kind_tag}

-- ---- types

-- what stands behind the tag of a type
abbrev pub type_rest : FrameType → List Piece
type_rest (type.Object name) = Mention (Class name) ∷ []
type_rest (type.Uninitialized at) = Bytes (to_be_bytes w16 at) ∷ []
type_rest _ = []

abbrev pub type_pieces : FrameType → List Piece
type_pieces t = Bytes (to_be_bytes w8 (type_tag t)) ∷ type_rest t

abbrev pub counted_pieces : List FrameType → List Piece
counted_pieces ts = Bytes (to_be_bytes w16 (length ts)) ∷ flat_map type_pieces ts

abbrev pub FitsType : FrameType → Type 0
FitsType (type.Uninitialized at) = at < 2 ^ 16
FitsType _ = Unit {0}

abbrev pub FitsTypes : List FrameType → Type 0
FitsTypes ts = (i : ℕ) (t : FrameType) → slice_get ts i ≡ Some t → FitsType t

abbrev pub FitsCounted : List FrameType → Type 0
FitsCounted ts = (length ts < 2 ^ 16) × FitsTypes ts

-- ---- forms

-- the delta of a form that isn't near
abbrev pub delta_pieces : Form → List Piece
delta_pieces (Same d) = []
delta_pieces (SameOne d t) = []
delta_pieces (SameOneFar d t) = Bytes (to_be_bytes w16 d) ∷ []
delta_pieces (Chop k d) = Bytes (to_be_bytes w16 d) ∷ []
delta_pieces (SameFar d) = Bytes (to_be_bytes w16 d) ∷ []
delta_pieces (Append k d more) = Bytes (to_be_bytes w16 d) ∷ []
delta_pieces (Full d locals stack) = Bytes (to_be_bytes w16 d) ∷ []

-- the types that a form has
abbrev pub types_in : Form → List Piece
types_in (Same d) = []
types_in (SameOne d t) = type_pieces t
types_in (SameOneFar d t) = type_pieces t
types_in (Chop k d) = []
types_in (SameFar d) = []
types_in (Append k d more) = flat_map type_pieces more
types_in (Full d locals stack) = counted_pieces locals ++ counted_pieces stack

-- what stands behind the tag of a frame
abbrev pub form_rest : Form → List Piece
form_rest f = delta_pieces f ++ types_in f

abbrev pub form_pieces : Form → List Piece
form_pieces f = Bytes (to_be_bytes w8 (kind_tag (kind_of f))) ∷ form_rest f

abbrev pub FitsForm : Form → Type 0
FitsForm (SameOne d t) = FitsType t
FitsForm (SameOneFar d t) = FitsType t
FitsForm (Append k d more) = FitsTypes more
FitsForm (Full d locals stack) = FitsCounted locals × FitsCounted stack
FitsForm _ = Unit {0}
