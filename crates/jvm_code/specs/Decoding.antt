-- Reading code: opcodes and cuts in one pass from the front, then targets (JVMS SE 8 §4.9.1).
use Rattle.std.specs.Prelude.{◌≡◌, ℕ, zero, suc, ◌+◌, ◌-◌, ◌&&◌, List, [], ◌∷◌, length, map, nat_lt, Bool, true, Option, Some, None, Result, Ok, Err, ◌==◌, if◌then◌else◌}
use Rattle.std.specs.List.{list_any, list_all}
use Rattle.jvm_code_instructions.specs.declared.fault.Fault.{Fault}
use Rattle.jvm_code_instructions.specs.declared.fault.Fault.TheVariants as fault
use Rattle.jvm_code.specs.declared.error.CodeErr.{CodeErr}
use Rattle.jvm_code.specs.declared.error.CodeErr.TheVariants.{BadOpcode, Cut, BadTarget, NoMemory}
use Rattle.jvm_code_instructions.specs.declared.instr.Instr.{Instr}
use Rattle.jvm_code_instructions.specs.Table.{Operands, Nothing, Byte, Half, LocalAmount, Near, Far, Called, Ints, Table, Lookup, Wide, WideAmount, Row, row_of}
use Rattle.jvm_code.specs.Spelling.{Follows}
use Rattle.jvm_code_instructions.specs.Reading.{row_at}

-- ---- code and its rows

abbrev pub at_row : ℕ × Instr → ℕ × Row
at_row i = (i.0, row_of i.1)

abbrev pub rows : List (ℕ × Instr) → List (ℕ × Row)
rows is = map at_row is

abbrev pub starts_of : List (ℕ × Row) → List ℕ
starts_of is = map (λ i. i.0) is

-- ---- targets

-- a target is the offset of an instruction, from -reach to reach - 1 away
abbrev pub stands : List ℕ → ℕ → ℕ → ℕ → Bool
stands starts reach at t = list_any (λ s. s == t) starts && (nat_lt at (t + reach + 1) && nat_lt t (at + reach))

-- each target of an instruction stands, by a distance of two bytes or of four
abbrev pub aims : List ℕ → ℕ → Operands → Bool
aims starts at (Near t) = stands starts 32768 at t
aims starts at (Far t) = stands starts 2147483648 at t
aims starts at (Table default low targets) = stands starts 2147483648 at default
    && list_all (λ t. stands starts 2147483648 at t) targets
aims starts at (Lookup default pairs) = stands starts 2147483648 at default
    && list_all (λ p. stands starts 2147483648 at p.1) pairs
aims starts at Nothing = true
aims starts at (Byte n) = true
aims starts at (Half n) = true
aims starts at (LocalAmount n k) = true
aims starts at (Called p n) = true
aims starts at Ints = true
aims starts at (Wide c n) = true
aims starts at (WideAmount n k) = true

-- the first instruction one of whose targets does not stand
unfoldable pub first_bad : List ℕ → List (ℕ × Row) → Option ℕ
first_bad starts [] = None
first_bad starts (i ∷ is) = if aims starts i.0 i.1.operands then first_bad starts is else Some i.0

-- offsets follow sizes, each row allows its operands, and each target stands
abbrev pub IsLaid : List (ℕ × Row) → Type 0
IsLaid is = Follows 0 is × (first_bad (starts_of is) is ≡ None)

-- ---- the two passes

-- want of memory is free; every other error is the one that reading meets
abbrev pub Refuses : {Y : Type 0} → CodeErr → Result Y CodeErr → Type 0
Refuses NoMemory read = Unit {0}
Refuses (BadOpcode at) read = read ≡ Err (BadOpcode at)
Refuses (Cut at) read = read ≡ Err (Cut at)
Refuses (BadTarget at) read = read ≡ Err (BadTarget at)

-- what decoding returned, seen by view, is what reading gives, unless memory ran out
abbrev pub Decodes : {X Y : Type 0} → (X → Y) → Result X CodeErr → Result Y CodeErr → Type 0
Decodes view (Ok x) read = read ≡ Ok (view x)
Decodes view (Err e) read = Refuses e read

-- a fault of the instruction at an offset
abbrev pub placed : Fault → ℕ → CodeErr
placed fault.BadOpcode at = BadOpcode at
placed fault.Cut at = Cut at
placed fault.NoMemory at = NoMemory

-- one more instruction in front of what was read behind it
abbrev pub in_front : ℕ × Row → Result (List (ℕ × Row)) CodeErr → Result (List (ℕ × Row)) CodeErr
in_front i (Ok is) = Ok (i ∷ is)
in_front i (Err r) = Err r

-- the instruction in front, and what is read behind it
abbrev pub behind_first : ℕ → Result (Row × List ℕ) Fault → (List ℕ → Result (List (ℕ × Row)) CodeErr)
    → Result (List (ℕ × Row)) CodeErr
behind_first at (Err f) more = Err (placed f at)
behind_first at (Ok x) more = in_front (at, x.0) (more x.1)

-- the instructions of the last bytes of code of a length; n bounds their number
unfoldable pub rows_at : ℕ → ℕ → List ℕ → Result (List (ℕ × Row)) CodeErr
rows_at n total [] = Ok []
rows_at zero total (b ∷ bytes) = Ok []
rows_at (suc n) total (b ∷ bytes) =
    behind_first (total - length (b ∷ bytes)) (row_at (total - length (b ∷ bytes)) (b ∷ bytes))
    (λ rest. rows_at n total rest)

abbrev pub judged : List (ℕ × Row) → Option ℕ → Result (List (ℕ × Row)) CodeErr
judged is None = Ok is
judged is (Some at) = Err (BadTarget at)

abbrev pub with_targets : Result (List (ℕ × Row)) CodeErr → Result (List (ℕ × Row)) CodeErr
with_targets (Ok is) = judged is (first_bad (starts_of is) is)
with_targets (Err r) = Err r

-- all of the bytes, in two passes
unfoldable pub decode_of : List ℕ → Result (List (ℕ × Row)) CodeErr
decode_of bytes = with_targets (rows_at (length bytes) (length bytes) bytes)
