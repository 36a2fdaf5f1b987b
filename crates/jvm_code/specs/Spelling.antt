-- What code is, and the bytes that spell it (JVMS SE 8 §4.7.3, §4.9.1).
use Rattle.std.specs.Prelude.{ℕ, ◌+◌, ◌≡◌, List, [], ◌∷◌, ◌++◌, length}
use Rattle.jvm_code_instructions.specs.Table.{Row}
use Rattle.jvm_code_instructions.specs.Spelling.{row_bytes, Allowed}

-- each row allows its operands, and each offset is that of the one before and its size
abbrev pub Follows : ℕ → List (ℕ × Row) → Type 0
Follows at [] = Unit {0}
Follows at (i ∷ is) = (i.0 ≡ at) × Allowed i.1 × Follows (at + length (row_bytes at i.1)) is

-- the bytes of code
abbrev pub spelling : List (ℕ × Row) → List ℕ
spelling [] = []
spelling (i ∷ is) = row_bytes i.0 i.1 ++ spelling is
