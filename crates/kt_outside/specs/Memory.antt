-- Files and streams in memory.
use Rattle.std.specs.Prelude.{ℕ, ◌+◌, ◌-◌, ◌^◌, min, Bool, ◌==◌, List, find, map}
use Rattle.std.specs.Prelude.{Option, Some, String, string_bytes, Vec}
use Rattle.std.specs.List.{list_any}
use Rattle.std.specs.Option.{option_map}
use Rattle.std.specs.Str.{bytes_eq}
use Rattle.std.specs.declared.alloc.Global.{Global}
use Rattle.kt_outside.specs.Held.{Contents}

-- a name and what the file of this name holds
abbrev pub MemFile : Type 0
MemFile = String Global × Vec ℕ Global

-- the file has this name
abbrev pub is_named : List ℕ → MemFile → Bool
is_named name file = bytes_eq (string_bytes file.0) name

-- what the first file of this name holds
abbrev pub file_named : List MemFile → List ℕ → Option (List ℕ)
file_named files name = option_map (λ file. file.1.items) (find (is_named name) files)

-- what these files hold, which is told
abbrev pub held_in : List MemFile → Contents
held_in files = Some (file_named files)

-- the names that these texts are
abbrev pub names_in : List (String Global) → List (List ℕ)
names_in names = map string_bytes names

-- the number of the call that comes after so many: calls are counted from 1, as far as a u64 counts
abbrev pub next_call : ℕ → ℕ
next_call made = min (made + 1) (2 ^ 64 - 1)

-- the call that comes after so many is one of those that are to fail
abbrev pub is_to_fail : List ℕ → ℕ → Bool
is_to_fail listed made = list_any (λ number. number == next_call made) listed
