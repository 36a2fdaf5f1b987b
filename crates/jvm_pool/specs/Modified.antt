-- Modified UTF-8 (JVMS SE 8 §4.4.7): the bytes of a text of UTF-16 code units.
use Rattle.std.specs.Prelude.{ℕ, ◌+◌, ◌/◌, ◌%◌, ◌^◌, ◌<◌, List, [], ◌∷◌, All, nat_lt, ◌==◌, if◌then◌else◌}
use Rattle.std.specs.List.{flat_map}

-- the bytes of one code unit: a surrogate is spelled like any other unit, and 0 never as the byte 0
abbrev pub unit_bytes : ℕ → List ℕ
unit_bytes u =
    if u == 0 then 0xc0 ∷ 0x80 ∷ [] else
    if nat_lt u 0x80 then u ∷ [] else
    if nat_lt u 0x800 then (0xc0 + u / 0x40) ∷ (0x80 + u % 0x40) ∷ [] else
    (0xe0 + u / 0x1000) ∷ (0x80 + u / 0x40 % 0x40) ∷ (0x80 + u % 0x40) ∷ []

-- the bytes of a text
abbrev pub modified : List ℕ → List ℕ
modified text = flat_map unit_bytes text

-- a text: a list of 16-bit code units
abbrev pub IsText : List ℕ → Type 0
IsText text = All (λ unit. unit < 2 ^ 16) text
