-- What is asked of a judgement: it holds exactly where the part is allowed, its mentions count, and its bytes have room.
use Rattle.std.specs.Prelude.{◌≡◌, ℕ, ◌^◌, ◌<◌, List, Option, None, Some}
use Rattle.jvm_pool.specs.declared.entries.Entry.{Entry}
use Rattle.jvm_pool.specs.Mentions.{count_mentions}
use Rattle.jvm_pieces.specs.Pieces.{Piece, mentions}
use Rattle.jvm_class_formats.specs.Formats.{Format, widths}
use Rattle.jvm_class_tally.specs.declared.tally.Tally.{Tally}
use Rattle.jvm_class_tally.specs.Tallies.{left}

-- what pieces make of a tally
pub record Runs (es : List Entry) (ps : List Piece) (s t : Tally) : Type 0 where
  pub counted : count_mentions es (mentions ps) s.counter ≡ Some t.counter
  pub room : left (widths ps) s.room ≡ Some t.room

-- the room fits a length field
abbrev pub IsSmall : Option ℕ → Type 0
IsSmall None = Unit {0}
IsSmall (Some room) = room < 2 ^ 32

-- A value that is judged well is allowed, and its pieces run; what is allowed and runs is judged so. `P` is what is known
-- of the value beforehand.
pub record Judges (es : List Entry) {A : Type 0} (f : Format A) (P : A → Type 0) (j : A → Tally → Option Tally) : Type 0 where
  pub found : (a : A) (s t : Tally) → P a → IsSmall s.room → j a s ≡ Some t → f.allows a × Runs es (f.spell a) s t
  pub only : (a : A) (s t : Tally) → P a → f.allows a → Runs es (f.spell a) s t → j a s ≡ Some t
