-- What is asked of a part: what is read is spelled so, and what is spelled is read.
use Rattle.std.specs.Prelude.{◌≡◌, ℕ, ◌+◌, ◌^◌, ◌<◌, List, ◌++◌, get_or, Option, Some, Ok}
use Rattle.jvm_pool.specs.declared.entries.Entry.{Entry}
use Rattle.jvm_pool.specs.Entries.{units}
use Rattle.jvm_pool.specs.Mentions.{count_mentions}
use Rattle.jvm_pieces.specs.Pieces.{Piece, mentions, pieces}
use Rattle.jvm_class_formats.specs.Formats.{Spot, spot, Format}

abbrev pub IsBytes : List ℕ → Type 0
IsBytes bytes = (i : ℕ) → get_or bytes i 0 < 256

-- what was taken between two places: the bytes of these pieces, whose mentions are counted
pub record Takes (es : List Entry) (s : Spot) (ps : List Piece) (t : Spot) : Type 0 where
  pub parts : s.bytes ≡ pieces es ps ++ t.bytes
  pub counted : count_mentions es (mentions ps) s.counter ≡ Some t.counter
  pub total : s.total ≡ t.total
  pub rest_fits : IsBytes t.bytes

-- Behind a pool of these entries, what is read is allowed and spelled so, and what is allowed is read from its
-- spelling, whatever follows, where its mentions may stand here.
pub record Lawful (es : List Entry) {A : Type 0} (f : Format A) : Type 0 where
  pub found : (s : Spot) (x : A × Spot) → IsBytes s.bytes → f.read s ≡ Ok x
      → f.allows x.0 × Takes es s (f.spell x.0) x.1
  pub only : (a : A) (t b c : ℕ) (bytes : List ℕ) → f.allows a → count_mentions es (mentions (f.spell a)) b ≡ Some c
      → f.read (spot t b (pieces es (f.spell a) ++ bytes)) ≡ Ok (a, spot t c bytes)

-- the count of the pool fits two bytes
abbrev pub IsPool : List Entry → Type 0
IsPool es = 1 + units es < 2 ^ 16

-- an entry that says a value is the entry of the value
abbrev pub Says : {A : Type 0} → (A → Entry) → (Entry → Option A) → Type 0
Says {A} entry inside = (e : Entry) (a : A) → inside e ≡ Some a → entry a ≡ e
