-- What a stream that may fail has taken.
use Rattle.std.specs.Prelude.{ℕ, List, Option, ◌⊎◌}
use Rattle.std.specs.Io.KnownBytes.{Appends}
use Rattle.kt_outside.specs.Faults.{Rose}

-- a stream: the bytes that it took, where they are told, and how often it failed
pub record Stream : Type 0 where
  pub taken : Option (List ℕ)
  pub faults : ℕ

abbrev pub stream : Option (List ℕ) → ℕ → Stream
stream taken faults = record { taken = taken; faults = faults }

-- the stream took the text, where that is told, or it failed
abbrev pub Tells : Stream → Stream → List ℕ → Type 0
Tells before after text = Appends before.taken after.taken text ⊎ Rose before.faults after.faults
