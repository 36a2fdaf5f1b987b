-- What stands behind the constant pool of a class file, piece by piece (JVMS SE 8 §4.1).
use Rattle.std.specs.Prelude.{◌≡◌, ℕ, List, [], ◌∷◌, ◌++◌, Option, Some, None}
use Rattle.std.specs.Int.{w16, to_be_bytes}
use Rattle.jvm_pool.specs.declared.entries.Entry.{Entry}
use Rattle.jvm_pool.specs.Mentions.{seek, with_mention, IsInOrder}

-- bytes that don't depend on the pool, or a mention: the index of an entry in two bytes
pub data Piece : Type 0 where
  Bytes : List ℕ → Piece
  Mention : Entry → Piece

-- the mentions among pieces, in order
abbrev pub mentions : List Piece → List Entry
mentions [] = []
mentions (Bytes bytes ∷ ps) = mentions ps
mentions (Mention e ∷ ps) = e ∷ mentions ps

abbrev pub found : Option ℕ → ℕ
found None = 0
found (Some i) = i

-- the index of an entry that is there
abbrev pub index : List Entry → Entry → ℕ
index es e = found (seek 1 es e)

-- the bytes of a piece, and of pieces, behind a pool of these entries
abbrev pub piece : List Entry → Piece → List ℕ
piece es (Bytes bytes) = bytes
piece es (Mention e) = to_be_bytes w16 (index es e)

abbrev pub pieces : List Entry → List Piece → List ℕ
pieces es [] = []
pieces es (p ∷ ps) = piece es p ++ pieces es ps

-- The bytes spell these pieces behind a pool of these entries: the entries stand in the order of their first mention,
-- and each is mentioned.
pub record Spells (es : List Entry) (body : List ℕ) (ps : List Piece) : Type 0 where
  pub order : IsInOrder es (mentions ps)
  pub bytes : body ≡ pieces es ps

-- what a writer has: the pool so far, and the bytes behind it
pub record Draft : Type 0 where
  pub pool : List Entry
  pub body : List ℕ

abbrev pub draft : List Entry → List ℕ → Draft
draft es bytes = record { pool = es; body = bytes }

-- what a writer has after one more piece, and after more pieces
abbrev pub with_piece : Piece → Draft → Draft
with_piece (Bytes bytes) d = draft d.pool (d.body ++ bytes)
with_piece (Mention e) d = draft (with_mention e d.pool) (d.body ++ to_be_bytes w16 (index (with_mention e d.pool) e))

unfoldable pub with_pieces : List Piece → Draft → Draft
with_pieces [] d = d
with_pieces (p ∷ ps) d = with_pieces ps (with_piece p d)
