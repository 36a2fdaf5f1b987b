-- The statuses of the program, and the lines that they write.
use Rattle.std.specs.Prelude.{◌≡◌, ℕ, true, List, [], ◌∷◌, ◌++◌, codes, if◌then◌else◌, ◌==◌}
use Rattle.std.specs.List.{list_any}
use Rattle.kt_base.specs.Report.{line}

-- the file was run, and all of its text was written
abbrev pub done : ℕ
done = 0

-- its text isn't accepted
abbrev pub refused : ℕ
refused = 1

-- the words ask for nothing that the program does
abbrev pub usage : ℕ
usage = 2

-- memory was refused
abbrev pub no_memory : ℕ
no_memory = 6

-- the file can't be read
abbrev pub cannot_read : ℕ
cannot_read = 7

-- the output can't be written
abbrev pub cannot_write : ℕ
cannot_write = 8

-- its text is of the language, and not of what is run of it today
abbrev pub not_built : ℕ
not_built = 11

-- the statuses with which a file that was to be run wasn't
abbrev pub unrun : List ℕ
unrun = refused ∷ no_memory ∷ cannot_read ∷ not_built ∷ []

abbrev pub IsUnrun : ℕ → Type 0
IsUnrun ended = list_any (λ s. s == ended) unrun ≡ true

-- the statuses that a file which was to be run can have
abbrev pub IsOfFile : ℕ → Type 0
IsOfFile ended = list_any (λ s. s == ended) (done ∷ cannot_write ∷ unrun) ≡ true

-- the line of a status, which says what is told with it: a refusal, or the name of a file that can't be read
abbrev pub status_line : ℕ → List ℕ → List ℕ
status_line ended told =
    if ended == refused then line told
    else if ended == usage then line (codes "ktrun: usage")
    else if ended == no_memory then line (codes "ktrun: out of memory")
    else if ended == cannot_read then line (codes "ktrun: cannot read " ++ told)
    else if ended == cannot_write then line (codes "ktrun: cannot write")
    else if ended == not_built then line (codes "ktrun: not built yet")
    else []
