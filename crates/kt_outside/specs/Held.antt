-- What files and streams hold, where they tell it.
use Rattle.std.specs.Prelude.{◌≡◌, ℕ, List, ◌++◌, Option, None, Some}
use Rattle.std.specs.Option.{option_map}
use Rattle.std.specs.Io.KnownBytes.{Appends}

-- what each name holds, none where no file has it; or nothing is told
abbrev pub Contents : Type 0
Contents = Option (List ℕ → Option (List ℕ))

-- what a name holds, where it is told
abbrev pub file_in : Contents → List ℕ → Option (Option (List ℕ))
file_in contents name = option_map (λ files. files name) contents

-- it is told that the name holds these bytes
abbrev pub Holds : Contents → List ℕ → List ℕ → Type 0
Holds contents name bytes = file_in contents name ≡ Some (Some bytes)

-- it is told that no file has the name
abbrev pub Lacks : Contents → List ℕ → Type 0
Lacks contents name = file_in contents name ≡ Some None

-- where it is told, the name holds these bytes
abbrev pub Replaces : Contents → List ℕ → List ℕ → Type 0
Replaces None name bytes = Unit {0}
Replaces (Some files) name bytes = files name ≡ Some bytes

-- a prefix of the bytes was taken, where that is told
abbrev pub AppendsPrefix : Option (List ℕ) → Option (List ℕ) → List ℕ → Type 0
AppendsPrefix before after bytes = (front : List ℕ) × (back : List ℕ) × (bytes ≡ front ++ back)
    × Appends before after front
