-- What a reader returned, beside what is read.
use Rattle.std.specs.Prelude.{◌≡◌, ℕ, List, ◌++◌, Result, Ok, Err}
use Rattle.jvm_class_formats.specs.declared.errors.ReadErr.{ReadErr}
use Rattle.jvm_class_formats.specs.declared.errors.ReadErr.TheVariants.{BadBytes, NoMemory}

-- what was returned, seen by view, is what is read, unless memory ran out
abbrev pub Reads : {X Y : Type 0} → (X → Y) → Result X ReadErr → Result Y ℕ → Type 0
Reads view (Ok x) read = read ≡ Ok (view x)
Reads view (Err (BadBytes at)) read = read ≡ Err at
Reads view (Err NoMemory) read = Unit {0}

-- what stands in front of what is read behind it
abbrev pub in_front : {A S : Type 0} → List A → Result (List A × S) ℕ → Result (List A × S) ℕ
in_front before (Ok x) = Ok (before ++ x.0, x.1)
in_front before (Err at) = Err at
