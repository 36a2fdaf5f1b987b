-- Answers that name a file, and what a file may hold.
use Rattle.std.specs.Prelude.{◌≡◌, ◌⊎◌, ℕ, List, None, string_bytes}
use Rattle.kt_outside.specs.Faults.{Adds, MayAdd}
use Rattle.kt_outside.specs.Held.{Contents, file_in, Holds}
use Rattle.class_answers.specs.declared.answers.Answer.{Answer}
use Rattle.class_answers.specs.declared.answers.Answer.TheVariants as answer

-- the file of this name can't be read; or memory was refused
abbrev pub NamesUnread : List ℕ → Answer → Type 0
NamesUnread name (answer.CannotRead file) = string_bytes file ≡ name
NamesUnread name answer.NoMemory = Unit {0}
NamesUnread name _ = ⊥

-- the file of this name is refused at the offset; or memory was refused
abbrev pub NamesBad : List ℕ → ℕ → Answer → Type 0
NamesBad name at (answer.BadBytes file offset) = (string_bytes file ≡ name) × (offset ≡ at)
NamesBad name at answer.NoMemory = Unit {0}
NamesBad name at _ = ⊥

-- the file of this name holds the bytes; where nothing is told of files, it may hold any
abbrev pub MayHold : Contents → List ℕ → List ℕ → Type 0
MayHold held name bytes = Holds held name bytes ⊎ (file_in held name ≡ None)

-- the read of the file of this name failed, which the outside noted; or memory was refused
abbrev pub IsUnread : List ℕ → List (List ℕ) → List (List ℕ) → Answer → Type 0
IsUnread name before after (answer.CannotRead file) = (string_bytes file ≡ name) × Adds name before after
IsUnread name before after answer.NoMemory = MayAdd name before after
IsUnread name before after _ = ⊥
