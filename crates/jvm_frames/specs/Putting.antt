-- What a writer of pieces did to the pool and to the bytes behind it.
use Rattle.std.specs.Prelude.{◌≡◌, ℕ, ◌+◌, ◌<◌, List, [], ◌++◌, map, Option, None, Some, Result, Ok, Err}
use Rattle.jvm_pool.specs.declared.entries.Entry.{Entry}
use Rattle.jvm_pool.specs.declared.errors.PoolErr.{PoolErr}
use Rattle.jvm_pool.specs.declared.errors.PoolErr.TheVariants.{Full, NoMemory}
use Rattle.jvm_pool.specs.Entries.{units}
use Rattle.jvm_pool.specs.Mentions.{with_mentions}
use Rattle.jvm_pieces.specs.Pieces.{Piece, mentions, Draft, with_pieces}
use Rattle.jvm_class_types.specs.Seen.{Frame, frame_seen}
use Rattle.jvm_class_types.specs.declared.classes.Code as rust_code
use Rattle.jvm_class_types.specs.declared.classes.Method as rust_method
use Rattle.jvm_maps.specs.Frames.{Before, frame, AreFrames}

-- pool and bytes grew at most
pub record Grew (old new : Draft) : Type 0 where
  pub entries : List Entry
  pub bytes : List ℕ
  pub pool_is : new.pool ≡ old.pool ++ entries
  pub body_is : new.body ≡ old.body ++ bytes

-- what an error says of pieces that were to be written
abbrev pub PutsErr : Draft → Draft → List Piece → PoolErr → Type 0
PutsErr old new ps Full = (65535 < 1 + units (with_mentions (mentions ps) old.pool)) × Grew old new
PutsErr old new ps NoMemory = Grew old new

-- what a call did that was to write these pieces
abbrev pub Puts : {T : Type 0} → Draft → Draft → List Piece → Result T PoolErr → Type 0
Puts old new ps (Ok x) = new ≡ with_pieces ps old
Puts old new ps (Err e) = PutsErr old new ps e

-- ---- the frames of a method

abbrev pub frames_in : Option rust_code.Code → List Frame
frames_in None = []
frames_in (Some c) = map frame_seen c.frames.items

abbrev pub frames_of : rust_method.Method → List Frame
frames_of m = frames_in m.code

-- with some pool the frames have a spelling
abbrev pub HaveSpelling : Before → List Frame → Type 0
HaveSpelling b fs = (es : List Entry) × AreFrames es b fs

abbrev pub HasSpelling : Before → Frame → Type 0
HasSpelling b f = (es : List Entry) × (frame es b).allows f
