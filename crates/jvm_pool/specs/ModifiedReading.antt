-- The code unit at the front of bytes in modified UTF-8, and the bytes behind it.
use Rattle.std.specs.Prelude.{ℕ, ◌+◌, ◌-◌, ◌*◌, List, [], ◌∷◌, Bool, ◌&&◌, ◌||◌, Option, Some, None, nat_lt, nat_le, ◌==◌, if◌then◌else◌}

-- whether a byte can stand behind the first one of a unit
abbrev pub continues : ℕ → Bool
continues b = nat_le 0x80 b && nat_lt b 0xc0

-- a unit of two bytes, of which a is the first
abbrev pub two_byte_unit : ℕ → List ℕ → Option (ℕ × List ℕ)
two_byte_unit a [] = None
two_byte_unit a (b ∷ rest) =
    if continues b then (let u : ℕ = (a - 0xc0) * 0x40 + (b - 0x80) in if u == 0 || nat_le 0x80 u then Some (u, rest)
    else None) else None

-- a unit of three bytes, of which a is the first
abbrev pub three_byte_unit : ℕ → List ℕ → Option (ℕ × List ℕ)
three_byte_unit a [] = None
three_byte_unit a (b ∷ []) = None
three_byte_unit a (b ∷ c ∷ rest) =
    if continues b && continues c then (let u : ℕ = (a - 0xe0) * 0x1000 + (b - 0x80) * 0x40 + (c - 0x80)
    in if nat_le 0x800 u then Some (u, rest) else None) else None

abbrev pub first_unit : List ℕ → Option (ℕ × List ℕ)
first_unit [] = None
first_unit (a ∷ rest) =
    if nat_lt 0 a && nat_lt a 0x80 then Some (a, rest) else
    if nat_le 0xc0 a && nat_lt a 0xe0 then two_byte_unit a rest else
    if nat_le 0xe0 a && nat_lt a 0xf0 then three_byte_unit a rest else
    None
