-- A class file: its head, its pool, what stands behind the pool, and nothing more (JVMS SE 8 §4.1).
use Rattle.std.specs.Prelude.{◌≡◌, ℕ, ◌+◌, ◌^◌, ◌<◌, List, ◌++◌, [], length, Result, Ok, Err, ◌==◌, if◌then◌else◌}
use Rattle.std.specs.Int.{w16, w32}
use Rattle.jvm_pool.specs.declared.entries.Entry.{Entry}
use Rattle.jvm_pool.specs.Entries.{units}
use Rattle.jvm_pieces.specs.Pieces.{pieces, Spells}
use Rattle.jvm_class_types.specs.Constants.{magic, minor_version, major_version}
use Rattle.jvm_class_types.specs.Seen.{Class}
use Rattle.jvm_class_formats.specs.Formats.{Spot, spot, here, Format, ◌>>=◌, the, seq}
use Rattle.jvm_pool_bytes.specs.Spelling.{pool, AreEntries}
use Rattle.jvm_pool_bytes.specs.Reading.{pool_at}
use Rattle.jvm_class_grammar.specs.Grammar.{class}

-- the magic number, and the minor and the major version
abbrev pub head : Format (ℕ × (ℕ × ℕ))
head = seq (the w32 magic) (λ m. seq (the w16 minor_version) (λ minor. the w16 major_version))

abbrev pub head_bytes : List ℕ
head_bytes = pieces [] (head.spell (magic, (minor_version, major_version)))

-- The bytes are the class file of this class with this pool: the entries stand in the order of their first mention,
-- each is mentioned, and each keeps its rule; the class keeps the rules of its grammar.
pub record IsClassFile (bytes : List ℕ) (es : List Entry) (c : Class) : Type 0 where
  pub behind : List ℕ
  pub entries : AreEntries es
  pub count : 1 + units es < 2 ^ 16
  pub class_is : (class es).allows c
  pub spells : Spells es behind ((class es).spell c)
  pub bytes_are : bytes ≡ head_bytes ++ (pool es ++ behind)

-- a class with this pool has a class file
abbrev pub HasClassFile : List Entry → Class → Type 0
HasClassFile es c = (bytes : List ℕ) × IsClassFile bytes es c

-- ---- reading

-- a surplus byte is refused at its own offset, and a counter that falls short at the file's length
abbrev pub ended : List Entry → Class × Spot → Result (List Entry × Class) ℕ
ended es x =
    if length x.1.bytes == 0 then (if x.1.counter == 1 + units es then Ok (es, x.0) else Err x.1.total)
    else Err (here x.1)

abbrev pub behind_pool : List Entry × Spot → Result (List Entry × Class) ℕ
behind_pool p = (class p.0).read p.1 >>= ended p.0

-- the pool and the class that bytes spell, or the offset at which they are refused
unfoldable pub read_of : List ℕ → Result (List Entry × Class) ℕ
read_of bytes = head.read (spot (length bytes) 1 bytes) >>= λ h. pool_at h.1 >>= behind_pool
