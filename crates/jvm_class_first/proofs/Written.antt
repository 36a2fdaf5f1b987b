-- What is written is the class file.
use Rattle.std.proofs.Common.{◌≡◌, ℕ, ◌+◌, ◌^◌, ◌<◌, ◌≤◌, List, [], ◌++◌, length, IsSome}
use Rattle.kt_base.specs.declared.stack_code.Plain.{Plain}
use Rattle.kt_base.specs.StackCode.{runs, nothing}
use Rattle.jvm_pool.specs.Entries.{units}
use Rattle.jvm_pieces.specs.Pieces.{Draft, draft, with_pieces}
use Rattle.jvm_pieces.proofs.Drafts.{written_spells}
use Rattle.jvm_class_first.specs.ClassFile.{AreOfPlain, IsClassOf, class_pieces, magic, pool, version}

pub class_written : (code : List Plain) (d : Draft) (bytes : List ℕ) → length code ≤ 512 → IsSome (runs code nothing) → d ≡ with_pieces (class_pieces code) (draft [] [])
    → AreOfPlain d.pool → 1 + units d.pool < 2 ^ 16 → bytes ≡ ((magic ++ version) ++ pool d.pool) ++ d.body → IsClassOf bytes code
class_written code d bytes steps there is kinds count written = record {
  entries = d.pool;
  behind = d.body;
  code_is = record { steps = steps; runs = there };
  kinds = kinds;
  count = count;
  spells = written_spells (class_pieces code) d is;
  bytes_are = written;
}
