-- Which frames bytes are, and where they are none.
use Rattle.std.specs.Prelude.{◌≡◌, ℕ, ◌+◌, ◌<◌, List, length, map, Some, Result, Ok, Err}
use Rattle.jvm_pool.specs.declared.entries.Entry.{Entry}
use Rattle.jvm_pool.specs.Entries.{units}
use Rattle.jvm_pool.specs.Mentions.{count_mentions}
use Rattle.jvm_pieces.specs.Pieces.{mentions, pieces}
use Rattle.jvm_class_types.specs.Seen.{Frame, frame_seen}
use Rattle.jvm_class_types.specs.declared.frames.Frame as rust_frame
use Rattle.jvm_class_formats.specs.Formats.{Spot, spot}
use Rattle.jvm_maps.specs.Frames.{Before, frame, AreFrames, frames_spell, frames_at}
use Rattle.jvm_frames.specs.Behind.{behind_all}
use Rattle.jvm_frames.specs.declared.errors.FrameErr.{FrameErr}
use Rattle.jvm_frames.specs.declared.errors.FrameErr.TheVariants.{Bad, NoMemory}
use Rattle.std.specs.Global.{Vec}

-- behind a pool, each of whose entries may be mentioned
abbrev pub at_all : List Entry → List ℕ → Spot
at_all es bytes = spot (length bytes) (1 + units es) bytes

-- The bytes are the spelling of these frames, behind the frame before: each is written in the first form that fits, and
-- each class that they mention is in the pool.
pub record SpellsFrames (es : List Entry) (b : Before) (bytes : List ℕ) (fs : List Frame) : Type 0 where
  pub frames : AreFrames es b fs
  pub in_pool : count_mentions es (mentions (frames_spell es b fs)) (1 + units es) ≡ Some (1 + units es)
  pub bytes_are : bytes ≡ pieces es (frames_spell es b fs)

-- Some frames are read from the front of the bytes, and what stands behind them is refused.
pub record Stops (es : List Entry) (b : Before) (bytes : List ℕ) (at : ℕ) : Type 0 where
  pub read : List Frame
  pub rest : Spot
  pub front : frames_at es b (length read) (at_all es bytes) ≡ Ok (read, rest)
  pub some_left : 0 < length rest.bytes
  pub refused : (frame es (behind_all b read)).read rest ≡ Err at

-- what was returned is these frames, unless memory ran out
abbrev pub Gives : Result (Vec rust_frame.Frame) FrameErr → List Frame → Type 0
Gives (Ok v) fs = map frame_seen v.items ≡ fs
Gives (Err (Bad at)) fs = ⊥
Gives (Err NoMemory) fs = Unit {0}

-- a fact of the offset of a refusal
abbrev pub IfBad : {T : Type 0} → Result T FrameErr → (ℕ → Type 0) → Type 0
IfBad (Err (Bad at)) P = P at
IfBad _ P = Unit {0}
