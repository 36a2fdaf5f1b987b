-- A frame against the one before, as the definitions see it.
use Rattle.std.specs.Prelude.{ℕ, ◌^◌, ◌&&◌, List, Option, Some, None, Result, Ok, Err, nat_lt, if◌then◌else◌}
use Rattle.jvm_class_types.specs.declared.frames.FrameType.{FrameType}
use Rattle.jvm_class_formats.specs.Formats.{Spot, ◌>>=◌}
use Rattle.jvm_class_types.specs.Seen.{Frame}
use Rattle.jvm_maps.specs.Frames.{Step, step, Form, meaning, form_of, Kind, kind_of, Before, offset_of, frame_of, framed}
use Rattle.jvm_frames_forms.specs.KindsSeen.{same_kind}
use Rattle.jvm_frames.specs.declared.steps.Step as rust_step

abbrev pub step_seen : rust_step.Step → Step
step_seen s = step s.delta s.locals.items s.stack.items

-- what a form that was read stands for
abbrev pub meant : List FrameType → Result (Form × Spot) ℕ → Result (Step × Spot) ℕ
meant before (Ok x) = Ok (meaning before x.0, x.1)
meant before (Err at) = Err at

-- an offset that fits four bytes
abbrev pub fitting : ℕ → Option ℕ
fitting n = if nat_lt n (2 ^ 32) then Some n else None

-- the frame that is written so, where the kind is that of the first form that fits
abbrev pub judged : ℕ → Before → Kind → Step → Result Frame ℕ
judged at b k s =
    if same_kind (kind_of (form_of b.locals s)) k && nat_lt (offset_of b.offset s.delta) (2 ^ 32) then Ok (frame_of b s)
    else Err at

-- the frame of a form that was read, where that is the first that fits
abbrev pub framed_so : Before → ℕ → Result (Form × Spot) ℕ → Result (Frame × Spot) ℕ
framed_so b at r = r >>= framed b at

-- a value and the place behind it
abbrev pub placed : {A : Type 0} → Spot → Result A ℕ → Result (A × Spot) ℕ
placed s (Ok a) = Ok (a, s)
placed s (Err at) = Err at
