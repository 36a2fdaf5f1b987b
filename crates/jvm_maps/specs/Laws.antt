-- Laws of the definitions.
use Rattle.std.specs.Prelude.{◌≡◌, ℕ, List}
use Rattle.jvm_pool.specs.declared.entries.Entry.{Entry}
use Rattle.jvm_class_types.specs.declared.frames.FrameType.{FrameType}
use Rattle.jvm_class_formats.specs.Lawful.{Lawful, IsPool}
use Rattle.jvm_maps.specs.Frames.{Step, meaning, form_of, Before, frames}

-- the form in which a frame is written stands for the frame
abbrev pub FormMeans : Type 0
FormMeans = (before : List FrameType) (s : Step) → meaning before (form_of before s) ≡ s

-- so many frames, behind the frame before: what is read is spelled so, and what is spelled is read
abbrev pub FramesAreLawful : Type 0
FramesAreLawful = (es : List Entry) (b : Before) (n : ℕ) → IsPool es → Lawful es (frames es b n)
