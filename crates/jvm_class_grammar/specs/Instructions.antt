-- The code of a method, with what its instructions mention (JVMS SE 8 §4.7.3).
use Rattle.std.specs.Prelude.{◌≡◌, ℕ, ◌+◌, Bool, true, false, List, [], ◌∷◌, length, take, drop, Option, None, Some, Result, Ok, Err, nat_lt, if◌then◌else◌}
use Rattle.std.specs.List.{flat_map, AllByRecursion}
use Rattle.jvm_code_instructions.specs.Table.{Operands, Called, Row}
use Rattle.jvm_code_instructions.specs.Spelling.{row_bytes}
use Rattle.jvm_code.specs.declared.error.CodeErr.{CodeErr}
use Rattle.jvm_code.specs.declared.error.CodeErr.TheVariants.{BadOpcode, Cut, BadTarget, NoMemory}
use Rattle.jvm_code.specs.Spelling.{spelling}
use Rattle.jvm_code.specs.Decoding.{decode_of, IsLaid}
use Rattle.jvm_pool.specs.declared.entries.Entry.{Entry}
use Rattle.jvm_pieces.specs.Pieces.{Piece, Bytes, Mention}
use Rattle.jvm_class_formats.specs.Formats.{Spot, spot, here, Format, ◌>>=◌, named, said, mentioned}
use Rattle.jvm_class_grammar.specs.Kinds.{Needed, needed}

-- an entry, where it is one of these
abbrev pub if_kind : Bool → Entry → Option Entry
if_kind true e = Some e
if_kind false e = None

abbrev pub of_kind : (Entry → Bool) → Entry → Option Entry
of_kind kind e = if_kind (kind e) e

-- the bytes behind the index of an instruction that has one
abbrev pub behind_index : Operands → List ℕ
behind_index (Called index count) = count ∷ 0 ∷ []
behind_index _ = []

module _ (es : List Entry) where
  -- ---- spelling

  abbrev pub mention_pieces : ℕ → ℕ → Operands → Option Entry → List Piece
  mention_pieces at opcode operands None = []
  mention_pieces at opcode operands (Some e) = Bytes (opcode ∷ []) ∷ Mention e ∷ Bytes (behind_index operands) ∷ []

  -- an instruction in pieces: the index of an entry is a mention
  abbrev pub pieces_of : ℕ → Row → Option Needed → List Piece
  pieces_of at r None = Bytes (row_bytes at r) ∷ []
  pieces_of at r (Some n) = mention_pieces at r.opcode r.operands (named es n.0)

  abbrev pub row_pieces : ℕ × Row → List Piece
  row_pieces i = pieces_of i.0 i.1 (needed i.1.opcode i.1.operands)

  -- the entry that is mentioned is there, and of the kind
  abbrev pub IsNamed : Option Needed → Type 0
  IsNamed None = Unit {0}
  IsNamed (Some n) = (e : Entry) × (named es n.0 ≡ Some e) × (n.1 e ≡ true)

  abbrev pub Names : ℕ × Row → Type 0
  Names i = IsNamed (needed i.1.opcode i.1.operands)

  -- ---- reading

  -- the place behind a mention, which is refused at the start of its instruction
  abbrev pub counted_at : ℕ → Spot → Option Needed → Result Spot ℕ
  counted_at at s None = Ok s
  counted_at at s (Some n) = mentioned es s at s.counter (said (of_kind n.1) (named es n.0)) >>= λ e. Ok e.1

  abbrev pub mentions_at : ℕ → List (ℕ × Row) → Spot → Result Spot ℕ
  mentions_at start [] s = Ok s
  mentions_at start (i ∷ is) s =
      counted_at (start + i.0) s (needed i.1.opcode i.1.operands) >>= λ t. mentions_at start is t

  -- the offset at which code is refused
  abbrev pub offset_of : CodeErr → ℕ
  offset_of (BadOpcode at) = at
  offset_of (Cut at) = at
  offset_of (BadTarget at) = at
  offset_of NoMemory = 0

  -- the code is decoded whole before any mention in it is judged
  abbrev pub decoded : Spot → ℕ → Result (List (ℕ × Row)) CodeErr → Result (List (ℕ × Row) × Spot) ℕ
  decoded s n (Err e) = Err (here s + offset_of e)
  decoded s n (Ok is) =
      mentions_at (here s) is (spot s.total s.counter (drop n s.bytes)) >>= λ t. Ok (is, t)

  abbrev pub code_at : ℕ → Spot → Result (List (ℕ × Row) × Spot) ℕ
  code_at n s = if nat_lt (length s.bytes) n then Err s.total else decoded s n (decode_of (take n s.bytes))

  -- code of so many bytes
  abbrev pub code : ℕ → Format (List (ℕ × Row))
  code n = record {
    allows = λ is. (length (spelling is) ≡ n) × IsLaid is × AllByRecursion Names is;
    spell = λ is. flat_map row_pieces is;
    read = code_at n;
  }
