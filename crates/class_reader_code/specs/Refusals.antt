-- The place at which code is refused.
use Rattle.std.specs.Prelude.{◌≡◌, ℕ, ◌+◌, List, Result, Ok}
use Rattle.jvm_code_instructions.specs.Table.{Row}
use Rattle.jvm_code.specs.declared.error.CodeErr.{CodeErr}
use Rattle.jvm_code.specs.declared.error.CodeErr.TheVariants as code_err
use Rattle.jvm_pool.specs.declared.entries.Entry.{Entry}
use Rattle.jvm_class_formats.specs.declared.errors.ReadErr.{ReadErr}
use Rattle.jvm_class_formats.specs.declared.errors.ReadErr.TheVariants as read_err
use Rattle.jvm_class_formats.specs.Formats.{Spot, ◌>>=◌}
use Rattle.jvm_class_grammar.specs.Instructions.{mentions_at}

-- what decoding refuses, as a refusal of the file
abbrev pub Refused : CodeErr → ℕ → ReadErr → Type 0
Refused code_err.NoMemory start r = r ≡ read_err.NoMemory
Refused (code_err.BadOpcode at) start r = r ≡ read_err.BadBytes (start + at)
Refused (code_err.Cut at) start r = r ≡ read_err.BadBytes (start + at)
Refused (code_err.BadTarget at) start r = r ≡ read_err.BadBytes (start + at)

-- the instructions with the place behind what they mention
abbrev pub mentioned_rows : List Entry → ℕ → List (ℕ × Row) → Spot → Result (List (ℕ × Row) × Spot) ℕ
mentioned_rows es start is s = mentions_at es start is s >>= λ t. Ok (is, t)
