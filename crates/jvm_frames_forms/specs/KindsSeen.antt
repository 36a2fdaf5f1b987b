-- The kinds of frames as the definitions see them.
use Rattle.std.specs.Prelude.{ℕ, ◌<◌, ◌≤◌, Bool, true, false, ◌==◌}
use Rattle.jvm_maps.specs.Frames.{Kind, IsSame, IsSameOne, IsSameOneFar, IsChop, IsSameFar, IsAppend, IsFull}
use Rattle.jvm_frames_forms.specs.declared.kinds.Kind as rust_kind
use Rattle.jvm_frames_forms.specs.declared.kinds.Kind.TheVariants as kind

abbrev pub kind_seen : rust_kind.Kind → Kind
kind_seen (kind.Same delta) = IsSame delta
kind_seen (kind.SameOne delta) = IsSameOne delta
kind_seen kind.SameOneFar = IsSameOneFar
kind_seen (kind.Chop count) = IsChop count
kind_seen kind.SameFar = IsSameFar
kind_seen (kind.Append count) = IsAppend count
kind_seen kind.Full = IsFull

-- a delta that the tag tells is below 64, and a count is 1 to 3
abbrev pub IsKind : rust_kind.Kind → Type 0
IsKind (kind.Same delta) = delta < 64
IsKind (kind.SameOne delta) = delta < 64
IsKind (kind.Chop count) = (0 < count) × (count ≤ 3)
IsKind (kind.Append count) = (0 < count) × (count ≤ 3)
IsKind _ = Unit {0}

-- whether two kinds are the same
abbrev pub same_kind : Kind → Kind → Bool
same_kind (IsSame d) (IsSame e) = d == e
same_kind (IsSameOne d) (IsSameOne e) = d == e
same_kind IsSameOneFar IsSameOneFar = true
same_kind (IsChop k) (IsChop l) = k == l
same_kind IsSameFar IsSameFar = true
same_kind (IsAppend k) (IsAppend l) = k == l
same_kind IsFull IsFull = true
same_kind _ _ = false
