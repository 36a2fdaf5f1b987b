-- Stack map frames (JVMS SE 8 §4.7.4): how each is written against the one before, and read.
use Rattle.std.specs.Prelude.{◌≡◌, ℕ, zero, suc, ◌+◌, ◌-◌, ◌^◌, ◌<◌, Bool, true, false, ◌&&◌, List, [], ◌∷◌, ◌++◌, length, take, drop, Option, None, Some, is_some, Result, Ok, Err, nat_lt, nat_le, ◌==◌, if◌then◌else◌, find}
use Rattle.std.specs.Int.{w8}
use Rattle.jvm_pool.specs.declared.entries.Entry.{Entry}
use Rattle.jvm_pieces.specs.Pieces.{Piece}
use Rattle.jvm_class_types.specs.declared.frames.FrameType.{FrameType}
use Rattle.jvm_class_types.specs.Seen.{Frame}
use Rattle.jvm_class_formats.specs.Formats.{Spot, here, Format, ◌>>=◌, number, u2, seq, as_named, variant, times, counted, item}
use Rattle.jvm_maps.specs.Types.{same_types, frame_type}

-- ---- a frame against the one before

-- the distance from the frame before, and the types
pub record Step : Type 0 where
  pub delta : ℕ
  pub locals : List FrameType
  pub stack : List FrameType

abbrev pub step : ℕ → List FrameType → List FrameType → Step
step delta locals stack = record { delta = delta; locals = locals; stack = stack }

-- the forms in which a frame is written; a near one has its delta in the tag
pub data Form : Type 0 where
  Same : ℕ → Form
  SameOne : ℕ → FrameType → Form
  SameOneFar : ℕ → FrameType → Form
  Chop : ℕ → ℕ → Form
  SameFar : ℕ → Form
  Append : ℕ → ℕ → List FrameType → Form
  Full : ℕ → List FrameType → List FrameType → Form

-- what a form stands for, where these are the locals of the frame before
abbrev pub meaning : List FrameType → Form → Step
meaning before (Same d) = step d before []
meaning before (SameOne d t) = step d before (t ∷ [])
meaning before (SameOneFar d t) = step d before (t ∷ [])
meaning before (Chop k d) = step d (take (length before - k) before) []
meaning before (SameFar d) = step d before []
meaning before (Append k d more) = step d (before ++ more) []
meaning before (Full d locals stack) = step d locals stack

-- ---- the first form that fits

abbrev pub lacks : List FrameType → List FrameType → ℕ → Bool
lacks before locals k = nat_le k (length before) && same_types locals (take (length before - k) before)

abbrev pub has_more : List FrameType → List FrameType → ℕ → Bool
has_more before locals k = length locals == length before + k && same_types (take (length before) locals) before

abbrev pub one_to_three : List ℕ
one_to_three = 1 ∷ 2 ∷ 3 ∷ []

abbrev pub appended : List FrameType → ℕ → List FrameType → Option ℕ → Form
appended before d locals (Some k) = Append k d (drop (length before) locals)
appended before d locals None = Full d locals []

abbrev pub chopped : List FrameType → ℕ → List FrameType → Option ℕ → Form
chopped before d locals (Some k) = Chop k d
chopped before d locals None = appended before d locals (find (has_more before locals) one_to_three)

abbrev pub form_with : List FrameType → ℕ → List FrameType → List FrameType → Form
form_with before d locals [] =
    if same_types locals before then (if nat_lt d 64 then Same d else SameFar d) else
    chopped before d locals (find (lacks before locals) one_to_three)
form_with before d locals (t ∷ []) =
    if same_types locals before then (if nat_lt d 64 then SameOne d t else SameOneFar d t) else
    Full d locals (t ∷ [])
form_with before d locals stack = Full d locals stack

abbrev pub form_of : List FrameType → Step → Form
form_of before s = form_with before s.delta s.locals s.stack

-- ---- tags

pub data Kind : Type 0 where
  IsSame : ℕ → Kind
  IsSameOne : ℕ → Kind
  IsSameOneFar : Kind
  IsChop : ℕ → Kind
  IsSameFar : Kind
  IsAppend : ℕ → Kind
  IsFull : Kind

abbrev pub kind_of : Form → Kind
kind_of (Same d) = IsSame d
kind_of (SameOne d t) = IsSameOne d
kind_of (SameOneFar d t) = IsSameOneFar
kind_of (Chop k d) = IsChop k
kind_of (SameFar d) = IsSameFar
kind_of (Append k d more) = IsAppend k
kind_of (Full d locals stack) = IsFull

abbrev pub kind_tag : Kind → ℕ
kind_tag (IsSame d) = d
kind_tag (IsSameOne d) = 64 + d
kind_tag IsSameOneFar = 247
kind_tag (IsChop k) = 251 - k
kind_tag IsSameFar = 251
kind_tag (IsAppend k) = 251 + k
kind_tag IsFull = 255

-- the kind of form that a tag stands for
unfoldable pub tagged : ℕ → Option Kind
tagged t =
    if nat_lt t 64 then Some (IsSame t) else
    if nat_lt t 128 then Some (IsSameOne (t - 64)) else
    if nat_lt t 247 then None else
    if nat_lt t 248 then Some IsSameOneFar else
    if nat_lt t 251 then Some (IsChop (251 - t)) else
    if nat_lt t 252 then Some IsSameFar else
    if nat_lt t 255 then Some (IsAppend (t - 251)) else
    if nat_lt t 256 then Some IsFull else
    None

-- whether a number is the tag of a frame
abbrev pub is_frame_tag : ℕ → Bool
is_frame_tag t = is_some (tagged t)

-- ---- the bytes of a form

abbrev pub same_inside : ℕ → Form → Option (Unit {0})
same_inside d (Same e) = if e == d then Some tt else None
same_inside d _ = None

abbrev pub same_one_inside : ℕ → Form → Option FrameType
same_one_inside d (SameOne e t) = if e == d then Some t else None
same_one_inside d _ = None

abbrev pub same_one_far_inside : Form → Option (ℕ × FrameType)
same_one_far_inside (SameOneFar d t) = Some (d, t)
same_one_far_inside _ = None

abbrev pub chop_inside : ℕ → Form → Option ℕ
chop_inside k (Chop l d) = if l == k then Some d else None
chop_inside k _ = None

abbrev pub same_far_inside : Form → Option ℕ
same_far_inside (SameFar d) = Some d
same_far_inside _ = None

abbrev pub append_inside : ℕ → Form → Option (ℕ × List FrameType)
append_inside k (Append l d more) = if l == k then Some (d, more) else None
append_inside k _ = None

abbrev pub full_inside : Form → Option (ℕ × (List FrameType × List FrameType))
full_inside (Full d locals stack) = Some (d, (locals, stack))
full_inside _ = None

-- no bytes
abbrev pub nothing : Format (Unit {0})
nothing = record { allows = λ u. Unit {0}; spell = λ u. []; read = λ s. Ok (tt, s) }

module _ (es : List Entry) where
  -- what stands behind a tag of a kind
  abbrev pub behind_kind : Kind → Format Form
  behind_kind (IsSame d) = variant (λ u. Same d) (same_inside d) nothing
  behind_kind (IsSameOne d) = variant (SameOne d) (same_one_inside d) (frame_type es)
  behind_kind IsSameOneFar = variant (λ x. SameOneFar x.0 x.1) same_one_far_inside (seq u2 (λ d. frame_type es))
  behind_kind (IsChop k) = variant (Chop k) (chop_inside k) u2
  behind_kind IsSameFar = variant SameFar same_far_inside u2
  behind_kind (IsAppend k) =
      variant (λ x. Append k x.0 x.1) (append_inside k) (seq u2 (λ d. times (frame_type es) k))
  behind_kind IsFull =
      variant (λ x. Full x.0 x.1.0 x.1.1) full_inside
      (seq u2 (λ d. seq (counted (frame_type es)) (λ locals. counted (frame_type es))))

  abbrev pub behind : Option Kind → Format Form
  behind None = record { allows = λ f. ⊥; spell = λ f. []; read = λ s. Err (here s) }
  behind (Some k) = behind_kind k

  -- stack_map_frame, in whatever form
  abbrev pub form : Format Form
  form = as_named (λ x. x.1) (λ f. (kind_tag (kind_of f), f)) (seq (number w8 is_frame_tag) (λ t. behind (tagged t)))

-- ---- the same form

abbrev pub same_form : Form → Form → Bool
same_form (Same d) (Same e) = d == e
same_form (SameOne d t) (SameOne e u) = d == e && same_types (t ∷ []) (u ∷ [])
same_form (SameOneFar d t) (SameOneFar e u) = d == e && same_types (t ∷ []) (u ∷ [])
same_form (Chop k d) (Chop l e) = k == l && d == e
same_form (SameFar d) (SameFar e) = d == e
same_form (Append k d more) (Append l e others) = k == l && (d == e && same_types more others)
same_form (Full d locals stack) (Full e others more) = d == e && (same_types locals others && same_types stack more)
same_form _ _ = false

-- ---- offsets

-- The place of a frame: the offset of the frame before, if there is one, and its locals. The first frame's delta is its
-- offset, and each later one's is one less than the distance.
pub record Before : Type 0 where
  pub offset : Option ℕ
  pub locals : List FrameType

abbrev pub before : Option ℕ → List FrameType → Before
before offset locals = record { offset = offset; locals = locals }

abbrev pub offset_of : Option ℕ → ℕ → ℕ
offset_of None delta = delta
offset_of (Some previous) delta = previous + delta + 1

abbrev pub delta_of : Option ℕ → ℕ → ℕ
delta_of None offset = offset
delta_of (Some previous) offset = offset - (previous + 1)

abbrev pub is_later : Option ℕ → ℕ → Bool
is_later None offset = true
is_later (Some previous) offset = nat_lt previous offset

abbrev pub frame_of : Before → Step → Frame
frame_of b s = record { offset = offset_of b.offset s.delta; locals = s.locals; stack = s.stack }

abbrev pub step_of : Before → Frame → Step
step_of b f = step (delta_of b.offset f.offset) f.locals f.stack

-- a frame is read where its form is the first that fits, and its offset fits four bytes
abbrev pub is_first : Before → Form → Bool
is_first b f =
    same_form (form_of b.locals (meaning b.locals f)) f
    && nat_lt (offset_of b.offset (meaning b.locals f).delta) (2 ^ 32)

abbrev pub framed : Before → ℕ → Form × Spot → Result (Frame × Spot) ℕ
framed b at x = if is_first b x.0 then Ok (frame_of b (meaning b.locals x.0), x.1) else Err at

-- one frame, behind the frame before
abbrev pub inside : List Entry → Before → Format Frame
inside es b = record {
  allows = λ f. (is_later b.offset f.offset ≡ true) × (f.offset < 2 ^ 32)
      × (form es).allows (form_of b.locals (step_of b f));
  spell = λ f. (form es).spell (form_of b.locals (step_of b f));
  read = λ s. (form es).read s >>= framed b (here s);
}

-- it is one item
abbrev pub frame : List Entry → Before → Format Frame
frame es b = item (inside es b)

-- ---- frames, one behind the other

abbrev pub after : Frame → Before
after f = before (Some f.offset) f.locals

abbrev pub AreFrames : List Entry → Before → List Frame → Type 0
AreFrames es b [] = Unit {0}
AreFrames es b (f ∷ fs) = (frame es b).allows f × AreFrames es (after f) fs

abbrev pub frames_spell : List Entry → Before → List Frame → List Piece
frames_spell es b [] = []
frames_spell es b (f ∷ fs) = (frame es b).spell f ++ frames_spell es (after f) fs

abbrev pub frames_at : List Entry → Before → ℕ → Spot → Result (List Frame × Spot) ℕ
frames_at es b zero s = Ok ([], s)
frames_at es b (suc n) s =
    (frame es b).read s >>= λ f. frames_at es (after f.0) n f.1 >>= λ rest. Ok (f.0 ∷ rest.0, rest.1)

-- so many frames
abbrev pub frames : List Entry → Before → ℕ → Format (List Frame)
frames es b n = record {
  allows = λ fs. (length fs ≡ n) × AreFrames es b fs;
  spell = frames_spell es b;
  read = frames_at es b n;
}
