-- What the program does: the theorem of this project.
use Rattle.std.specs.Prelude.{◌≡◌, ◌≢◌, ◌⊎◌, ℕ, List, [], Option, None, Some}
use Rattle.std.specs.Io.KnownBytes.{Appends}
use Rattle.kt_base.specs.declared.refusals.Refusal.{Refusal}
use Rattle.kt_base.specs.Refusals.{refusal_text}
use Rattle.kt_base.specs.Report.{line}
use Rattle.kt_outside.specs.Faults.{Rose, Adds}
use Rattle.kt_outside.specs.Held.{Contents, file_in, Holds, Lacks, AppendsPrefix}
use Rattle.kt_parser.specs.Refusals.{HasTree, IsRefused}
use Rattle.ktrun.specs.FirstRuns.{Ends, IsOfFirst}
use Rattle.ktrun.specs.Statuses as status
use Rattle.ktrun.specs.Statuses.{IsOfFile, IsUnrun, status_line}

-- a stream: the bytes that it took, where they are told, and how often it failed
pub record Stream : Type 0 where
  pub taken : Option (List ℕ)
  pub faults : ℕ

-- all that is outside of the program: what files hold, where it is told; the names at which a read or a put failed; and
-- the streams for output and for errors
pub record Outside : Type 0 where
  pub held : Contents
  pub read_faults : List (List ℕ)
  pub put_faults : List (List ℕ)
  pub out : Stream
  pub err : Stream

-- ---- what stands behind a status

-- the file of this name holds the source; where nothing is told of files, it may hold any
abbrev pub HasSource : Contents → List ℕ → List ℕ → Type 0
HasSource contents name source = Holds contents name source ⊎ (file_in contents name ≡ None)

-- the file holds a source that is refused so
abbrev pub HoldsRefused : Contents → List ℕ → Refusal → Type 0
HoldsRefused contents name r = (source : List ℕ) × HasSource contents name source × IsRefused source r

-- the source is of the language, and not of what is run of it today
abbrev pub IsForeign : List ℕ → Type 0
IsForeign source = HasTree source × ¬ (IsOfFirst source)

-- the file holds such a source
abbrev pub HoldsForeign : Contents → List ℕ → Type 0
HoldsForeign contents name = (source : List ℕ) × HasSource contents name source × IsForeign source

-- Read directly, the file's source writes this text under these choices, each coroutine returns, and none can go on.
abbrev pub Ran : Contents → List ℕ → List ℕ → List ℕ → Type 0
Ran contents name choices text = (source : List ℕ) × HasSource contents name source
    × Ends source choices text [] status.done

-- the stream took the line, where that is told, or it failed
abbrev pub Tells : Stream → Stream → List ℕ → Type 0
Tells before after text = Appends before.taken after.taken text ⊎ Rose before.faults after.faults

-- no read failed
abbrev pub ReadsAll : Outside → Outside → Type 0
ReadsAll before after = after.read_faults ≡ before.read_faults

-- the output didn't fail
abbrev pub Unbroken : Outside → Outside → Type 0
Unbroken before after = ¬ (Rose before.out.faults after.out.faults)

-- ---- the theorem

-- What is true of the status and the choices with which a run of the file of this name ends.
pub record Says (name : List ℕ) (before after : Outside) (ended : ℕ) (choices : List ℕ) : Type 0 where
  pub is_status : IsOfFile ended
  pub done : ended ≡ status.done
      → (text : List ℕ) × Ran before.held name choices text × Appends before.out.taken after.out.taken text
  pub cannot_write : ended ≡ status.cannot_write
      → (text : List ℕ) × Ran before.held name choices text × AppendsPrefix before.out.taken after.out.taken text
      × Rose before.out.faults after.out.faults
  pub refused : ended ≡ status.refused
      → (r : Refusal) × HoldsRefused before.held name r × Tells before.err after.err (line (refusal_text r))
  pub not_built : ended ≡ status.not_built → HoldsForeign before.held name
  pub cannot_read : ended ≡ status.cannot_read → Adds name before.read_faults after.read_faults
  pub no_read_fault : ended ≢ status.cannot_read → ReadsAll before after
  pub no_write_fault : ended ≢ status.cannot_write → after.out.faults ≡ before.out.faults
  pub nothing_written : IsUnrun ended → after.out ≡ before.out
  pub no_choices : IsUnrun ended → choices ≡ []
  pub told : ended ≢ status.refused → Tells before.err after.err (status_line ended name)
  pub files_stay : after.held ≡ before.held
  pub nothing_put : after.put_faults ≡ before.put_faults

-- What comes of a file of which it is told what it holds, or that it is absent: no other status than this and want of
-- memory, unless the outside failed.
pub record Comes (name : List ℕ) (before after : Outside) (ended : ℕ) : Type 0 where
  pub runs : (source : List ℕ) → Holds before.held name source → IsOfFirst source
      → ReadsAll before after → Unbroken before after → (ended ≡ status.done) ⊎ (ended ≡ status.no_memory)
  pub refuses : (source : List ℕ) (r : Refusal) → Holds before.held name source → IsRefused source r
      → ReadsAll before after → (ended ≡ status.refused) ⊎ (ended ≡ status.no_memory)
  pub foreign : (source : List ℕ) → Holds before.held name source → IsForeign source
      → ReadsAll before after → (ended ≡ status.not_built) ⊎ (ended ≡ status.no_memory)
  pub absent : Lacks before.held name → (ended ≡ status.cannot_read) ⊎ (ended ≡ status.no_memory)

-- Words that ask for nothing are told so, and that is all.
pub record RefusesWords (before after : Outside) (ended : ℕ) (choices : List ℕ) : Type 0 where
  pub usage : ended ≡ status.usage
  pub no_choices : choices ≡ []
  pub told : Tells before.err after.err (status_line status.usage [])
  pub output_stays : after.out ≡ before.out
  pub files_stay : after.held ≡ before.held
  pub nothing_read : after.read_faults ≡ before.read_faults
  pub nothing_put : after.put_faults ≡ before.put_faults

-- What the program does, by the file that its words ask it to run.
abbrev pub Headline : Option (List ℕ) → Outside → Outside → ℕ → List ℕ → Type 0
Headline (Some name) before after ended choices = Says name before after ended choices × Comes name before after ended
Headline None before after ended choices = RefusesWords before after ended choices

-- ---- what is outside, as the contracts see it

abbrev pub stream : Option (List ℕ) → ℕ → Stream
stream taken faults = record { taken = taken; faults = faults }

abbrev pub outside : Contents → List (List ℕ) → List (List ℕ) → Stream → Stream → Outside
outside held read_faults put_faults out err =
    record { held = held; read_faults = read_faults; put_faults = put_faults; out = out; err = err }
