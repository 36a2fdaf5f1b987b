-- What the words of a command ask for.
use Rattle.std.specs.Prelude.{ℕ, Bool, true, false, ◌&&◌, not, ◌==◌, if◌then◌else◌}
use Rattle.std.specs.Prelude.{List, [], ◌∷◌, Option, None, Some, codes}
use Rattle.std.specs.Str.{bytes_eq}

-- the name of a file isn't empty and doesn't begin with `-`
abbrev pub is_name : List ℕ → Bool
is_name [] = false
is_name (first ∷ bytes) = not (first == 45)

-- no option, or `--workers 1`
abbrev pub is_one_worker : List (List ℕ) → Bool
is_one_worker [] = true
is_one_worker (option ∷ count ∷ []) = bytes_eq option (codes "--workers") && bytes_eq count (codes "1")
is_one_worker _ = false

-- the file that `run NAME` or `run NAME --workers 1` asks to run; all other words ask for nothing
abbrev pub file_to_run : List (List ℕ) → Option (List ℕ)
file_to_run (mode ∷ name ∷ options) = if bytes_eq mode (codes "run") && is_name name && is_one_worker options
    then Some name else None
file_to_run _ = None
