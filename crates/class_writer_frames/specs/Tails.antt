-- What stands behind the tag of a frame.
use Rattle.std.specs.Prelude.{ℕ, List, [], ◌++◌}
use Rattle.std.specs.Int.{w16, to_be_bytes}
use Rattle.std.specs.List.{flat_map, AllByRecursion}
use Rattle.jvm_pool.specs.declared.entries.Entry.{Entry}
use Rattle.jvm_pieces.specs.Pieces.{pieces}
use Rattle.jvm_class_formats.specs.Formats.{counted}
use Rattle.jvm_maps.specs.Types.{frame_type}
use Rattle.jvm_maps.specs.Frames.{Form, Same, SameOne, SameOneFar, Chop, SameFar, Append, Full}

module _ (es : List Entry) where
  -- the bytes behind the tag of a form
  abbrev pub tail : Form → List ℕ
  tail (Same d) = []
  tail (SameOne d t) = pieces es ((frame_type es).spell t)
  tail (SameOneFar d t) = to_be_bytes w16 d ++ pieces es ((frame_type es).spell t)
  tail (Chop k d) = to_be_bytes w16 d
  tail (SameFar d) = to_be_bytes w16 d
  tail (Append k d more) = to_be_bytes w16 d ++ pieces es (flat_map (frame_type es).spell more)
  tail (Full d locals stack) = to_be_bytes w16 d
      ++ (pieces es ((counted (frame_type es)).spell locals) ++ pieces es ((counted (frame_type es)).spell stack))

  -- the types of a form are allowed
  abbrev pub HasTypes : Form → Type 0
  HasTypes (SameOne d t) = (frame_type es).allows t
  HasTypes (SameOneFar d t) = (frame_type es).allows t
  HasTypes (Append k d more) = AllByRecursion (frame_type es).allows more
  HasTypes (Full d locals stack) = (counted (frame_type es)).allows locals × (counted (frame_type es)).allows stack
  HasTypes _ = Unit {0}
