-- Entries judged one by one, and the entries that they stand for.
use Rattle.std.specs.Prelude.{◌≡◌, ℕ, true, List, Option, Some, None, Result, Ok, Err, slice_get, if◌then◌else◌}
use Rattle.jvm_pool.specs.declared.entries.Entry.{Entry}
use Rattle.jvm_pool.specs.declared.entries.Entry.TheVariants.{Class, Field, Method, InterfaceMethod, NameAndType}
use Rattle.jvm_class_formats.specs.Formats.{Spot}
use Rattle.jvm_pool_bytes.specs.Spelling.{IsPool}
use Rattle.jvm_pool_bytes.specs.declared.raws.RawEntry.{RawEntry}
use Rattle.jvm_pool_bytes.specs.Names.{is_ascii}
use Rattle.jvm_pool_bytes.specs.Raws.{entry_of}
use Rattle.jvm_pool_bytes.specs.Reading.{fits}

-- the offset of an entry one of whose parts isn't of its kind
abbrev pub misfit : List RawEntry → ℕ → Option (ℕ × RawEntry) → Option ℕ
misfit all count None = None
misfit all count (Some x) = if fits all count x.1 then None else Some x.0

-- the names of an entry are ASCII
abbrev pub HasNames : Entry → Type 0
HasNames (Class name) = is_ascii name ≡ true
HasNames (Field class name descriptor) =
    (is_ascii class ≡ true) × (is_ascii name ≡ true) × (is_ascii descriptor ≡ true)
HasNames (Method class name descriptor) =
    (is_ascii class ≡ true) × (is_ascii name ≡ true) × (is_ascii descriptor ≡ true)
HasNames (InterfaceMethod class name descriptor) =
    (is_ascii class ≡ true) × (is_ascii name ≡ true) × (is_ascii descriptor ≡ true)
HasNames (NameAndType name descriptor) = (is_ascii name ≡ true) × (is_ascii descriptor ≡ true)
HasNames _ = Unit {0}

-- the names of all that the entries stand for are ASCII
abbrev pub HaveNames : List RawEntry → Type 0
HaveNames all = (i : ℕ) (r : RawEntry) → slice_get all i ≡ Some r → HasNames (entry_of all r)

-- what is read is a pool
abbrev pub GivesPool : Result (List Entry × Spot) ℕ → Type 0
GivesPool (Ok x) = IsPool x.0
GivesPool (Err at) = Unit {0}
