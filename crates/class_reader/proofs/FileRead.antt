-- What a file says that was read, or refused.
use Rattle.std.proofs.Common.{◌≡◌, ℕ, List, Result, Ok, Err, subst}
use Rattle.std.specs.Prelude.{IfOk}
use Rattle.jvm_pool.specs.declared.entries.Entry.{Entry}
use Rattle.jvm_class_types.specs.declared.classes.ClassFile.{ClassFile}
use Rattle.jvm_class_types.specs.Seen.{Class, class_seen}
use Rattle.jvm_class_formats.specs.Lawful.{IsBytes}
use Rattle.jvm_class_formats.specs.Reads.{Reads}
use Rattle.jvm_class_formats.specs.declared.errors.ReadErr.{ReadErr}
use Rattle.jvm_class_grammar.specs.File.{read_of, IsClassFile}
use Rattle.jvm_class_grammar.proofs.FileLaws.{file_is_read, file_is_spelled}
use Rattle.class_reader.specs.Bodies.{file_seen}

pub found_so : (bytes : List ℕ) (r : Result ClassFile ReadErr) → IsBytes bytes → Reads file_seen r (read_of bytes)
    → IfOk r (λ c. IsClassFile bytes c.pool (class_seen c))
found_so bytes (Ok c) fits h = file_is_spelled bytes c.pool (class_seen c) fits h
found_so bytes (Err e) fits h = tt

pub only_so : (bytes : List ℕ) (r : Result ClassFile ReadErr) → Reads file_seen r (read_of bytes)
    → (es : List Entry) (c : Class)
    → IsClassFile bytes es c → Reads file_seen r (Ok (es, c))
only_so bytes r h es c f =
    subst (λ (y : Result (List Entry × Class) ℕ). Reads file_seen r y) (file_is_read bytes es c f) h
