-- Laws of pieces.
use Rattle.std.specs.Prelude.{◌≡◌, ℕ, List, [], ◌++◌}
use Rattle.jvm_pool.specs.declared.entries.Entry.{Entry}
use Rattle.jvm_pieces.specs.Pieces.{Piece, Spells, Draft, draft, with_pieces}

-- what a writer has at the end spells the pieces that it took
abbrev pub WrittenSpells : Type 0
WrittenSpells = (ps : List Piece) (d : Draft) → d ≡ with_pieces ps (draft [] []) → Spells d.pool d.body ps

-- pieces have one spelling
abbrev pub OneSpelling : Type 0
OneSpelling = (ps : List Piece) (es other : List Entry) (body bytes : List ℕ) → Spells es body ps
    → Spells other bytes ps → (es ≡ other) × (body ≡ bytes)

-- a writer that takes pieces in two parts takes all of them
abbrev pub WritesInParts : Type 0
WritesInParts = (ps qs : List Piece) (d : Draft) → with_pieces (ps ++ qs) d ≡ with_pieces qs (with_pieces ps d)
