-- Laws of the definitions.
use Rattle.std.specs.Prelude.{◌≡◌, ℕ, true, List}
use Rattle.kt_base.specs.declared.stack_code.Plain.{Plain}
use Rattle.jvm_pool.specs.declared.entries.Entry.{Entry}
use Rattle.jvm_pool.specs.Mentions.{has}
use Rattle.jvm_pieces.specs.Pieces.{mentions}
use Rattle.jvm_class_first.specs.ClassFile.{IsClassOf, IsClosed, class_pieces}

-- code has one class file
abbrev pub OneClass : Type 0
OneClass = (code : List Plain) (bytes other : List ℕ) → IsClassOf bytes code → IsClassOf other code → bytes ≡ other

-- bytes are the class file of one list of steps at most
abbrev pub OneCode : Type 0
OneCode = (bytes : List ℕ) (code other : List Plain) → IsClassOf bytes code → IsClassOf bytes other → code ≡ other

-- each entry that a class file mentions is among its entries, and so is each part of one: no index is that of an
-- absent entry
abbrev pub EntriesStand : Type 0
EntriesStand = (bytes : List ℕ) (code : List Plain) (c : IsClassOf bytes code)
    → IsClosed c.entries × ((e : Entry) → has (mentions (class_pieces code)) e ≡ true → has c.entries e ≡ true)
