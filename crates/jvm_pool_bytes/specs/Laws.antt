-- Laws of the definitions.
use Rattle.std.specs.Prelude.{◌≡◌, ◌↔◌, true, ℕ, ◌+◌, ◌^◌, ◌<◌, List, ◌++◌, Ok}
use Rattle.jvm_pool.specs.declared.entries.Entry.{Entry}
use Rattle.jvm_pool.specs.Descriptors.{IsOfField, IsOfMethod}
use Rattle.jvm_pool.specs.Entries.{units}
use Rattle.jvm_pool.specs.Mentions.{IsInOrder}
use Rattle.jvm_class_formats.specs.Formats.{Spot, spot}
use Rattle.jvm_class_formats.specs.Lawful.{IsBytes}
use Rattle.jvm_pool_bytes.specs.Names.{is_ascii, is_field_descriptor, is_method_descriptor}
use Rattle.jvm_pool_bytes.specs.Spelling.{pool, AreEntries, IsPool}
use Rattle.jvm_pool_bytes.specs.Reading.{pool_at}

-- what is read is a pool, and spelled so
abbrev pub PoolIsSpelled : Type 0
PoolIsSpelled = (s : Spot) (es : List Entry) (rest : Spot) → IsBytes s.bytes → pool_at s ≡ Ok (es, rest)
    → IsPool es × (s.bytes ≡ pool es ++ rest.bytes) × (s.counter ≡ rest.counter) × (s.total ≡ rest.total)

-- a pool is read from its spelling, whatever follows
abbrev pub PoolIsRead : Type 0
PoolIsRead = (es : List Entry) (total counter : ℕ) (bytes : List ℕ) → IsPool es
    → pool_at (spot total counter (pool es ++ bytes)) ≡ Ok (es, spot total counter bytes)

-- entries in the order of their first mention are a pool
abbrev pub OrderIsPool : Type 0
OrderIsPool = (es ms : List Entry) → IsInOrder es ms → AreEntries es → 1 + units es < 2 ^ 16 → IsPool es

-- among ASCII texts the descriptors of fields and of methods are exactly those that spell one
abbrev pub DescriptorKinds : Type 0
DescriptorKinds = (text : List ℕ) → is_ascii text ≡ true
    → ((is_field_descriptor text ≡ true) ↔ IsOfField text) × ((is_method_descriptor text ≡ true) ↔ IsOfMethod text)
