-- Laws of the definitions.
use Rattle.std.specs.Prelude.{◌≡◌, ◌↔◌, ℕ, true, List, [], Some}
use Rattle.jvm_pool.specs.declared.entries.Entry.{Entry}
use Rattle.jvm_pool.specs.declared.descriptors.Descriptor.{Descriptor}
use Rattle.jvm_pool.specs.Descriptors.{spelled, IsDescriptor, IsSameDescriptor}
use Rattle.jvm_pool.specs.Entries.{behind}
use Rattle.jvm_pool.specs.Mentions.{has, seek, with_mention, with_mentions, IsInOrder}
use Rattle.jvm_pool.specs.Modified.{modified, IsText}
use Rattle.jvm_pool.specs.Numbering.{entry_at}

-- two texts that are spelled by the same bytes are the same
abbrev pub OneText : Type 0
OneText = (text other : List ℕ) → IsText text → IsText other → modified text ≡ modified other → text ≡ other

-- two descriptors that are spelled the same are the same
abbrev pub OneDescriptor : Type 0
OneDescriptor = (d e : Descriptor) → IsDescriptor d → IsDescriptor e → spelled d ≡ spelled e → IsSameDescriptor d e

-- the entries of a file in order are exactly those that a pool grows from its mentions
abbrev pub OneOrder : Type 0
OneOrder = (es ms : List Entry) → IsInOrder es ms ↔ (es ≡ with_mentions ms [])

-- an index that an entry has stays when the pool grows
abbrev pub KeptIndices : Type 0
KeptIndices = (es : List Entry) (m e : Entry) (i : ℕ) → seek 1 es e ≡ Some i → seek 1 (with_mention m es) e ≡ Some i

-- in a pool that grew from mentions each entry has one index, at which it starts
abbrev pub OneIndex : Type 0
OneIndex = (ms : List Entry) (e : Entry) (i : ℕ)
    → (seek 1 (with_mentions ms []) e ≡ Some i) ↔ (entry_at 1 (with_mentions ms []) i ≡ Some e)

-- in a pool that grew from mentions each entry that was mentioned has an index
abbrev pub MentionsStand : Type 0
MentionsStand = (ms : List Entry) (m : Entry) → has ms m ≡ true → (i : ℕ) × (seek 1 (with_mentions ms []) m ≡ Some i)

-- in a pool that grew from mentions each part of an entry that has an index has one too
abbrev pub PartsStand : Type 0
PartsStand = (ms : List Entry) (e p : Entry) (i : ℕ) → seek 1 (with_mentions ms []) e ≡ Some i
    → has (behind e) p ≡ true → (j : ℕ) × (seek 1 (with_mentions ms []) p ≡ Some j)
