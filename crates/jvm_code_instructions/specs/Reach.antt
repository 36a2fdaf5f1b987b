-- How far a target may be from its instruction (JVMS SE 8 §6.5: signed distances of two and of four bytes).
use Rattle.std.specs.Prelude.{ℕ, ◌+◌, ◌^◌, ◌<◌, ◌≤◌}
use Rattle.std.specs.List.{AllByRecursion}
use Rattle.jvm_code_instructions.specs.Table.{Operands, Nothing, Byte, Half, LocalAmount, Near, Far, Called, Ints, Table, Lookup, Wide, WideAmount}

-- from -reach to reach - 1
abbrev pub IsWithin : ℕ → ℕ → ℕ → Type 0
IsWithin reach at t = (at ≤ t + reach) × (t < at + reach)

-- each target of an instruction is within the reach of its distance
abbrev pub Reaches : ℕ → Operands → Type 0
Reaches at (Near t) = IsWithin (2 ^ 15) at t
Reaches at (Far t) = IsWithin (2 ^ 31) at t
Reaches at (Table default low targets) = IsWithin (2 ^ 31) at default × AllByRecursion (IsWithin (2 ^ 31) at) targets
Reaches at (Lookup default pairs) = IsWithin (2 ^ 31) at default × AllByRecursion (λ p. IsWithin (2 ^ 31) at p.1) pairs
Reaches at Nothing = Unit {0}
Reaches at (Byte n) = Unit {0}
Reaches at (Half n) = Unit {0}
Reaches at (LocalAmount n k) = Unit {0}
Reaches at (Called p n) = Unit {0}
Reaches at Ints = Unit {0}
Reaches at (Wide c n) = Unit {0}
Reaches at (WideAmount n k) = Unit {0}
