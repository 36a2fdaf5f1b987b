-- Which operands a row allows, and the bytes that spell an instruction (JVMS SE 8 §6.5).
use Rattle.std.specs.Prelude.{ℕ, ◌+◌, ◌-◌, ◌%◌, ◌^◌, ◌<◌, ◌≤◌, ◌≡◌, List, [], ◌∷◌, ◌++◌, length, replicate, Option, Some, None}
use Rattle.std.specs.List.{flat_map, AllByRecursion}
use Rattle.std.specs.Int.{w16, w32, to_be_bytes}
use Rattle.jvm_code_instructions.specs.Table.{Operands, Nothing, Byte, Half, LocalAmount, Near, Far, Called, Ints, Table, Lookup, Wide, WideAmount, Row, Shape, IsNothing, IsByte, IsHalf, IsLocalAmount, IsNear, IsFar, IsCalled, IsInts, IsTable, IsLookup, IsWide, IsLocal, shape_of, wide_shape}

-- from the instruction at one offset to its target
abbrev pub distance : ℕ → ℕ → ℕ
distance at target = target + (2 ^ 32 - at)

abbrev pub near_bytes : ℕ → ℕ → List ℕ
near_bytes at target = to_be_bytes w16 (distance at target % 2 ^ 16)

abbrev pub far_bytes : ℕ → ℕ → List ℕ
far_bytes at target = to_be_bytes w32 (distance at target % 2 ^ 32)

-- zeros up to the next offset that is a multiple of 4
abbrev pub padding : ℕ → List ℕ
padding at = replicate (3 - at % 4) 0

-- the number of the last target of a table, by its bits
abbrev pub high_of : ℕ → ℕ → ℕ
high_of low count = (low + count + (2 ^ 32 - 1)) % 2 ^ 32

abbrev pub pair_bytes : ℕ → ℕ × ℕ → List ℕ
pair_bytes at p = to_be_bytes w32 p.0 ++ far_bytes at p.1

-- the bytes of the operands of an instruction at an offset
abbrev pub operand_bytes : ℕ → Operands → List ℕ
operand_bytes at Nothing = []
operand_bytes at (Byte n) = n ∷ []
operand_bytes at (Half n) = to_be_bytes w16 n
operand_bytes at (LocalAmount n k) = n ∷ k ∷ []
operand_bytes at (Near t) = near_bytes at t
operand_bytes at (Far t) = far_bytes at t
operand_bytes at (Called p n) = to_be_bytes w16 p ++ n ∷ 0 ∷ []
operand_bytes at Ints = 10 ∷ []
operand_bytes at (Table default low targets) =
    padding at ++ (far_bytes at default ++
    (to_be_bytes w32 low ++ (to_be_bytes w32 (high_of low (length targets)) ++ flat_map (far_bytes at) targets)))
operand_bytes at (Lookup default pairs) =
    padding at ++ (far_bytes at default ++ (to_be_bytes w32 (length pairs % 2 ^ 32) ++ flat_map (pair_bytes at) pairs))
operand_bytes at (Wide c n) = c ∷ to_be_bytes w16 n
operand_bytes at (WideAmount n k) = 0x84 ∷ (to_be_bytes w16 n ++ to_be_bytes w16 k)

-- the bytes of an instruction at an offset
abbrev pub row_bytes : ℕ → Row → List ℕ
row_bytes at r = r.opcode ∷ operand_bytes at r.operands

-- a signed number by its bits, counted from the least
abbrev pub from_least : ℕ → ℕ
from_least n = (n + 2 ^ 31) % 2 ^ 32

-- pairs whose numbers ascend strictly, from a first one on
abbrev pub Ascends : ℕ → List (ℕ × ℕ) → Type 0
Ascends first [] = Unit {0}
Ascends first (p ∷ ps) = (p.0 < 2 ^ 32) × (p.1 < 2 ^ 32) × (first ≤ from_least p.0) × Ascends (from_least p.0 + 1) ps

-- the operands that a row allows
abbrev pub Has : Shape → Operands → Type 0
Has IsNothing Nothing = Unit {0}
Has IsByte (Byte n) = n < 256
Has IsHalf (Half n) = n < 2 ^ 16
Has IsLocalAmount (LocalAmount n k) = (n < 256) × (k < 256)
Has IsNear (Near t) = t < 2 ^ 32
Has IsFar (Far t) = t < 2 ^ 32
Has IsCalled (Called p n) = (p < 2 ^ 16) × (n < 256) × (0 < n)
Has IsInts Ints = Unit {0}
Has IsTable (Table default low targets) =
    (default < 2 ^ 32) × (low < 2 ^ 32) × (0 < length targets) × (from_least low + length targets ≤ 2 ^ 32)
    × AllByRecursion (λ t. t < 2 ^ 32) targets
Has IsLookup (Lookup default pairs) = (default < 2 ^ 32) × (length pairs < 2 ^ 31) × Ascends 0 pairs
Has IsWide (Wide c n) = (wide_shape c ≡ Some IsLocal) × (n < 2 ^ 16)
Has IsWide (WideAmount n k) = (n < 2 ^ 16) × (k < 2 ^ 16)
Has _ _ = ⊥

abbrev pub HasShape : Option Shape → Operands → Type 0
HasShape None o = ⊥
HasShape (Some s) o = Has s o

-- the table has the opcode, and its row allows the operands
abbrev pub Allowed : Row → Type 0
Allowed r = (r.opcode < 256) × HasShape (shape_of r.opcode) r.operands
