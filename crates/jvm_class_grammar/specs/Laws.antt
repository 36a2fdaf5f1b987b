-- Laws of the definitions.
use Rattle.std.specs.Prelude.{◌≡◌, ℕ, List, Ok}
use Rattle.jvm_pool.specs.declared.entries.Entry.{Entry}
use Rattle.jvm_class_types.specs.Seen.{Class}
use Rattle.jvm_class_formats.specs.Lawful.{IsBytes, Lawful, IsPool}
use Rattle.jvm_class_grammar.specs.Grammar.{class}
use Rattle.jvm_class_grammar.specs.File.{IsClassFile, read_of}

-- behind a pool a class is read exactly where it is spelled
abbrev pub ClassIsLawful : Type 0
ClassIsLawful = (es : List Entry) → IsPool es → Lawful es (class es)

-- bytes that are the class file of a class are read as the class: so they are refused only where they are that of none
abbrev pub FileIsRead : Type 0
FileIsRead = (bytes : List ℕ) (es : List Entry) (c : Class) → IsClassFile bytes es c → read_of bytes ≡ Ok (es, c)

-- what is read is a class file, and that of the class
abbrev pub FileIsSpelled : Type 0
FileIsSpelled = (bytes : List ℕ) (es : List Entry) (c : Class) → IsBytes bytes → read_of bytes ≡ Ok (es, c)
    → IsClassFile bytes es c

-- a class with its pool has one class file, and a class file is that of one class
abbrev pub OneFile : Type 0
OneFile = (bytes other : List ℕ) (es : List Entry) (c : Class) → IsClassFile bytes es c → IsClassFile other es c
    → bytes ≡ other

abbrev pub OneClass : Type 0
OneClass = (bytes : List ℕ) (es fs : List Entry) (c d : Class) → IsClassFile bytes es c → IsClassFile bytes fs d
    → (es ≡ fs) × (c ≡ d)
