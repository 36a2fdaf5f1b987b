-- What it means that bytes are no code.
use Rattle.std.specs.Prelude.{◌≡◌, ℕ, ◌<◌, ◌≤◌, List, ◌++◌, length, take, drop, Some, Err}
use Rattle.jvm_code_instructions.specs.declared.fault.Fault.TheVariants as fault
use Rattle.jvm_code.specs.declared.error.CodeErr.{CodeErr}
use Rattle.jvm_code.specs.declared.error.CodeErr.TheVariants.{BadOpcode, Cut, BadTarget, NoMemory}
use Rattle.jvm_code_instructions.specs.Table.{Row}
use Rattle.jvm_code_instructions.specs.Spelling.{row_bytes, Allowed}
use Rattle.jvm_code.specs.Spelling.{Follows, spelling}
use Rattle.jvm_code_instructions.specs.Reach.{Reaches}
use Rattle.jvm_code_instructions.specs.Reading.{row_at}
use Rattle.jvm_code.specs.Decoding.{starts_of, first_bad}

-- an instruction begins at the front of bytes, which stand at an offset
abbrev pub Begins : ℕ → List ℕ → Type 0
Begins at bytes = (r : Row) × (rest : List ℕ) × Allowed r × Reaches at r.operands × (bytes ≡ row_bytes at r ++ rest)

-- the bytes up to an offset are instructions, one after the other
abbrev pub IsReadTo : ℕ → List ℕ → Type 0
IsReadTo at bytes = (c : List (ℕ × Row)) × Follows 0 c × (take at bytes ≡ spelling c) × (at < length bytes)

-- the first bad target of a list is at an offset or before
abbrev pub IsBadBy : ℕ → List (ℕ × Row) → Type 0
IsBadBy at c = (first : ℕ) × (first_bad (starts_of c) c ≡ Some first) × (first ≤ at)

-- BadOpcode: all before it are instructions, and none begins there, whatever may follow the bytes. Cut: all before it
-- are instructions, and none begins there: the bytes end while each operand read so far is allowed. BadTarget: all are
-- instructions, and this is the first with a target that is no offset of theirs within reach; and every list that
-- spells the bytes has such a target there or before.
abbrev pub WhyNot : List ℕ → CodeErr → Type 0
WhyNot bytes (BadOpcode at) = IsReadTo at bytes × ((more : List ℕ) → ¬ Begins at (drop at bytes ++ more))
WhyNot bytes (Cut at) = IsReadTo at bytes × (¬ Begins at (drop at bytes)) × (row_at at (drop at bytes) ≡ Err fault.Cut)
WhyNot bytes (BadTarget at) =
    ((c : List (ℕ × Row)) × Follows 0 c × (bytes ≡ spelling c) × (first_bad (starts_of c) c ≡ Some at))
    × ((c : List (ℕ × Row)) → Follows 0 c → bytes ≡ spelling c → IsBadBy at c)
WhyNot bytes NoMemory = Unit {0}
