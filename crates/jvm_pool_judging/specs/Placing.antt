-- Entries that are looked for, and where they may be mentioned.
use Rattle.std.specs.Prelude.{◌≡◌, ℕ, ◌<◌, Bool, true, false, Option, None, Some}
use Rattle.jvm_pool.specs.declared.entries.Entry.{Entry}
use Rattle.jvm_pool.specs.declared.entries.Entry.TheVariants as entry
use Rattle.jvm_pool.specs.Mentions.{place}
use Rattle.jvm_pool_judging.specs.declared.sought.Sought.{Sought}
use Rattle.jvm_pool_judging.specs.declared.sought.Sought.TheVariants as sought

abbrev pub entry_sought : Sought → Entry
entry_sought (sought.Name name) = entry.Utf8 name.now
entry_sought (sought.Text units) = entry.Utf8 units.now
entry_sought (sought.Class name) = entry.Class name.now
entry_sought (sought.Pair name descriptor) = entry.NameAndType name.now descriptor.now

-- what an entry with an index does at a counter, whatever comes behind it; one that is next has an index of two bytes
abbrev pub IsPlaced : Option ℕ → ℕ → Option Bool → Type 0
IsPlaced index counter None = (r : Option ℕ) → place index counter r ≡ None
IsPlaced index counter (Some false) = (r : Option ℕ) → place index counter r ≡ Some counter
IsPlaced index counter (Some true) = ((r : Option ℕ) → place index counter r ≡ r) × (counter < 65536)
