-- A text of each kind is ASCII.
use Rattle.std.proofs.Common.{◌≡◌, ℕ, true, List}
use Rattle.std.proofs.lemmas.Bool.{and_parts}
use Rattle.jvm_pool_bytes.specs.Names.{is_ascii}
use Rattle.class_reader_members.specs.TextKinds.{text_keeps}
use Rattle.class_reader_members.specs.declared.texts.TextKind.{TextKind}
use Rattle.class_reader_members.specs.declared.texts.TextKind.TheVariants as kind

pub keeps_ascii : (k : TextKind) (t : List ℕ) → text_keeps k t ≡ true → is_ascii t ≡ true
keeps_ascii kind.Name t h = (and_parts _ _ h).1
keeps_ascii kind.FieldDescriptor t h = (and_parts _ _ h).0
keeps_ascii kind.MethodDescriptor t h = (and_parts _ _ h).0
