-- The indices of a pool's entries.
use Rattle.std.specs.Prelude.{◌≡◌, ℕ, false, ◌+◌, ◌<◌, ◌≤◌, List, [], ◌∷◌, ◌++◌, Option, Some, None, Result, Ok, Err, ◌==◌, if◌then◌else◌}
use Rattle.std.specs.Map.{keys_of, values_of}
use Rattle.jvm_pool.specs.declared.entries.Entry.{Entry}
use Rattle.jvm_pool.specs.declared.errors.PoolErr.{PoolErr}
use Rattle.jvm_pool.specs.declared.errors.PoolErr.TheVariants.{Full, NoMemory}
use Rattle.jvm_pool.specs.Entries.{size, units}
use Rattle.jvm_pool.specs.Mentions.{has}

-- the index of each entry, where k is that of the first
abbrev pub starts : ℕ → List Entry → List ℕ
starts k [] = []
starts k (e ∷ es) = k ∷ starts (k + size e) es

-- the entry that starts at an index, where k is the index of the first
unfoldable pub entry_at : ℕ → List Entry → ℕ → Option Entry
entry_at k [] i = None
entry_at k (e ∷ es) i = if i == k then Some e else entry_at (k + size e) es i

-- no entry stands twice
abbrev pub AreDifferent : List Entry → Type 0
AreDifferent [] = Unit {0}
AreDifferent (e ∷ es) = (has es e ≡ false) × AreDifferent es

-- entries with their indices, and the count of a class file's pool: one more than the last index
pub record IsNumbered (entries : List (Entry × ℕ)) (count : ℕ) : Type 0 where
  pub numbered : values_of entries ≡ starts 1 (keys_of entries)
  pub counted : count ≡ 1 + units (keys_of entries)
  pub fits : count ≤ 65535

-- what an error says of entries that were to become the target: they grew at most, and `Full` that the target has no
-- room
abbrev pub GrowsErr : List Entry → List Entry → List Entry → PoolErr → Type 0
GrowsErr old new target Full = (65535 < 1 + units target) × ((more : List Entry) × (new ≡ old ++ more))
GrowsErr old new target NoMemory = (more : List Entry) × (new ≡ old ++ more)

-- what a call did to the entries that were to become the target
abbrev pub Grows : {T : Type 0} → List Entry → List Entry → List Entry → Result T PoolErr → Type 0
Grows old new target (Ok x) = new ≡ target
Grows old new target (Err e) = GrowsErr old new target e
