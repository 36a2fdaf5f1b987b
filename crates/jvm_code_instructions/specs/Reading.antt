-- Reading an instruction from left to right, with the first fault that is met.
use Rattle.std.specs.Prelude.{◌≡◌, ℕ, zero, suc, ◌+◌, ◌-◌, ◌%◌, ◌^◌, List, [], ◌∷◌, length, take, drop, Option, Some, None, Result, Ok, Err, ◌==◌, nat_lt, int_lt, if◌then◌else◌}
use Rattle.std.specs.Int.{Width, w16, w32, byte_len, from_be_bytes, cast_signed, cast_unsigned}
use Rattle.jvm_code_instructions.specs.declared.fault.Fault.{Fault}
use Rattle.jvm_code_instructions.specs.declared.fault.Fault.TheVariants.{BadOpcode, Cut, NoMemory}
use Rattle.jvm_code_instructions.specs.Table.{Operands, Nothing, Byte, Half, LocalAmount, Near, Far, Called, Ints, Table, Lookup, Wide, WideAmount, Row, row, Shape, IsNothing, IsByte, IsHalf, IsLocalAmount, IsNear, IsFar, IsCalled, IsInts, IsTable, IsLookup, IsWide, WideShape, IsLocal, IsAmount, shape_of, wide_shape}
use Rattle.jvm_code_instructions.specs.Spelling.{from_least}

infixl 10 ◌>>=◌
abbrev pub ◌>>=◌ : {A B : Type 0} → Result A Fault → (A → Result B Fault) → Result B Fault
(Ok x) >>= f = f x
(Err e) >>= f = Err e

-- want of memory is free; every other fault is the one that reading meets
abbrev pub Fails : {Y : Type 0} → Fault → Result Y Fault → Type 0
Fails NoMemory read = Unit {0}
Fails BadOpcode read = read ≡ Err BadOpcode
Fails Cut read = read ≡ Err Cut

-- what a function returned, seen by view, is what reading gives, unless memory ran out
abbrev pub Gives : {X Y : Type 0} → (X → Y) → Result X Fault → Result Y Fault → Type 0
Gives view (Ok x) read = read ≡ Ok (view x)
Gives view (Err e) read = Fails e read

abbrev pub byte_at : List ℕ → Result (ℕ × List ℕ) Fault
byte_at [] = Err Cut
byte_at (b ∷ rest) = Ok (b, rest)

abbrev pub number_at : Width → List ℕ → Result (ℕ × List ℕ) Fault
number_at w bytes = if nat_lt (length bytes) (byte_len w) then Err Cut
    else Ok (from_be_bytes w (take (byte_len w) bytes), drop (byte_len w) bytes)

-- a byte that has to be this one
abbrev pub only_at : ℕ → List ℕ → Result (List ℕ) Fault
only_at b [] = Err Cut
only_at b (x ∷ rest) = if x == b then Ok rest else Err BadOpcode

-- a byte that must not be zero
abbrev pub count_at : List ℕ → Result (ℕ × List ℕ) Fault
count_at [] = Err Cut
count_at (n ∷ rest) = if n == 0 then Err BadOpcode else Ok (n, rest)

-- a target, behind its distance in two or four bytes
abbrev pub near_from : ℕ → ℕ → ℕ
near_from at d = (at + cast_unsigned w32 (cast_signed w16 d)) % 2 ^ 32

abbrev pub far_from : ℕ → ℕ → ℕ
far_from at d = (at + d) % 2 ^ 32

unfoldable pub near_at : ℕ → List ℕ → Result (ℕ × List ℕ) Fault
near_at at bytes = do
  d ← number_at w16 bytes
  Ok (near_from at d.0, d.1)

unfoldable pub far_at : ℕ → List ℕ → Result (ℕ × List ℕ) Fault
far_at at bytes = do
  d ← number_at w32 bytes
  Ok (far_from at d.0, d.1)

unfoldable pub zeros_at : ℕ → List ℕ → Result (List ℕ) Fault
zeros_at zero bytes = Ok bytes
zeros_at (suc n) bytes = do
  rest ← only_at 0 bytes
  zeros_at n rest

unfoldable pub fars_at : ℕ → ℕ → List ℕ → Result (List ℕ × List ℕ) Fault
fars_at at zero bytes = Ok ([], bytes)
fars_at at (suc n) bytes = do
  first ← far_at at bytes
  others ← fars_at at n first.1
  Ok (first.0 ∷ others.0, others.1)

unfoldable pub table_at : ℕ → List ℕ → Result (Operands × List ℕ) Fault
table_at at bytes = do
  rest ← zeros_at (3 - at % 4) bytes
  default ← far_at at rest
  low ← number_at w32 default.1
  high ← number_at w32 low.1
  targets ← if int_lt (cast_signed w32 high.0) (cast_signed w32 low.0) then Err BadOpcode
      else fars_at at ((high.0 + (2 ^ 32 - low.0)) % 2 ^ 32 + 1) high.1
  Ok (Table default.0 low.0 targets.0, targets.1)

-- a number that has to be at least the first, counted from the least, and its target
unfoldable pub pair_at : ℕ → ℕ → List ℕ → Result ((ℕ × ℕ) × List ℕ) Fault
pair_at at first bytes = do
  number ← number_at w32 bytes
  target ← if nat_lt (from_least number.0) first then Err BadOpcode else far_at at number.1
  Ok ((number.0, target.0), target.1)

unfoldable pub pairs_at : ℕ → ℕ → ℕ → List ℕ → Result (List (ℕ × ℕ) × List ℕ) Fault
pairs_at at zero first bytes = Ok ([], bytes)
pairs_at at (suc n) first bytes = do
  pair ← pair_at at first bytes
  others ← pairs_at at n (from_least pair.0.0 + 1) pair.1
  Ok (pair.0 ∷ others.0, others.1)

-- the count is a signed number, and not negative
unfoldable pub lookup_at : ℕ → List ℕ → Result (Operands × List ℕ) Fault
lookup_at at bytes = do
  rest ← zeros_at (3 - at % 4) bytes
  default ← far_at at rest
  count ← number_at w32 default.1
  pairs ← if nat_lt count.0 (2 ^ 31) then pairs_at at count.0 0 count.1 else Err BadOpcode
  Ok (Lookup default.0 pairs.0, pairs.1)

unfoldable pub called_at : List ℕ → Result (Operands × List ℕ) Fault
called_at bytes = do
  index ← number_at w16 bytes
  count ← count_at index.1
  rest ← only_at 0 count.1
  Ok (Called index.0 count.0, rest)

unfoldable pub ints_at : List ℕ → Result (Operands × List ℕ) Fault
ints_at bytes = do
  rest ← only_at 10 bytes
  Ok (Ints, rest)

unfoldable pub wide_operands_at : Option WideShape → ℕ → List ℕ → Result (Operands × List ℕ) Fault
wide_operands_at None c bytes = Err BadOpcode
wide_operands_at (Some IsLocal) c bytes = do
  local ← number_at w16 bytes
  Ok (Wide c local.0, local.1)
wide_operands_at (Some IsAmount) c bytes = do
  local ← number_at w16 bytes
  amount ← number_at w16 local.1
  Ok (WideAmount local.0 amount.0, amount.1)

unfoldable pub wide_at : List ℕ → Result (Operands × List ℕ) Fault
wide_at bytes = do
  c ← byte_at bytes
  wide_operands_at (wide_shape c.0) c.0 c.1

unfoldable pub operands_at : ℕ → Shape → List ℕ → Result (Operands × List ℕ) Fault
operands_at at IsNothing bytes = Ok (Nothing, bytes)
operands_at at IsByte bytes = do
  n ← byte_at bytes
  Ok (Byte n.0, n.1)
operands_at at IsHalf bytes = do
  n ← number_at w16 bytes
  Ok (Half n.0, n.1)
operands_at at IsLocalAmount bytes = do
  local ← byte_at bytes
  amount ← byte_at local.1
  Ok (LocalAmount local.0 amount.0, amount.1)
operands_at at IsNear bytes = do
  t ← near_at at bytes
  Ok (Near t.0, t.1)
operands_at at IsFar bytes = do
  t ← far_at at bytes
  Ok (Far t.0, t.1)
operands_at at IsCalled bytes = called_at bytes
operands_at at IsInts bytes = ints_at bytes
operands_at at IsTable bytes = table_at at bytes
operands_at at IsLookup bytes = lookup_at at bytes
operands_at at IsWide bytes = wide_at bytes

unfoldable pub shaped_at : ℕ → ℕ → Option Shape → List ℕ → Result (Row × List ℕ) Fault
shaped_at at c None bytes = Err BadOpcode
shaped_at at c (Some s) bytes = do
  o ← operands_at at s bytes
  Ok (row c o.0, o.1)

-- the instruction at the front of bytes, which stands at an offset, and the bytes behind it
unfoldable pub row_at : ℕ → List ℕ → Result (Row × List ℕ) Fault
row_at at [] = Err Cut
row_at at (c ∷ rest) = shaped_at at c (shape_of c) rest
