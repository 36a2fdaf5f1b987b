-- Locals against the types that a method starts with, one by one.
use Rattle.std.specs.Prelude.{◌≡◌, ℕ, ◌+◌, ◌<◌, List, [], ◌∷◌, length, take, Option, None, Some, nat_le, ◌==◌, if◌then◌else◌}
use Rattle.jvm_class_types.specs.declared.frames.FrameType.{FrameType}
use Rattle.jvm_class_start.specs.Arguments.{start_locals}
use Rattle.jvm_maps.specs.Types.{same_type}
use Rattle.jvm_maps.specs.Frames.{Before, before, Form, Chop, Full}
use Rattle.jvm_frames_judging.specs.declared.starts.Start as declared
use Rattle.jvm_frames_judging.specs.declared.starts.Difference.{Difference}
use Rattle.jvm_frames_judging.specs.declared.starts.Difference.TheVariants.{More, Fewer, Other}

-- the types that a method starts with
abbrev pub start_types : declared.Start → List FrameType
start_types s = start_locals s.class.now s.flags s.name.now s.descriptor.now

abbrev pub start_before : declared.Start → Before
start_before s = before None (start_types s)

-- the locals behind one of this type, and how many are lacking
abbrev pub next : FrameType → List FrameType → ℕ → Option (List FrameType × ℕ)
next t [] n = Some ([], n + 1)
next t (l ∷ ls) n = if same_type l t then Some (ls, n) else None

abbrev pub behind_next : Option (List FrameType × ℕ) → (List FrameType → ℕ → Difference) → Difference
behind_next None f = Other
behind_next (Some x) f = f x.0 x.1

abbrev pub walk : List FrameType → List FrameType → ℕ → Difference
walk [] ls n = if n == 0 then More (length ls) else Fewer n
walk (t ∷ ts) ls n = behind_next (next t ls n) (walk ts)

-- the locals are these types without the last, so many of them
abbrev pub Lacks : List FrameType → List FrameType → ℕ → Type 0
Lacks types locals count =
    (0 < count) × (length types ≡ count + length locals) × (locals ≡ take (length locals) types)

-- the form of a frame that lacks so many of the locals before
abbrev pub lacking_form : ℕ → ℕ → List FrameType → List FrameType → Form
lacking_form count delta locals [] = if nat_le count 3 then Chop count delta else Full delta locals []
lacking_form count delta locals (t ∷ stack) = Full delta locals (t ∷ stack)
