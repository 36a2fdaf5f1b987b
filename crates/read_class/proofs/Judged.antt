-- What is read and written.
use Rattle.std.proofs.Common.{◌≡◌, ℕ, List, Result, Ok, Err, sym, subst}
use Rattle.jvm_pool.specs.declared.entries.Entry.{Entry}
use Rattle.jvm_class_types.specs.Seen.{Class}
use Rattle.jvm_class_types.specs.declared.classes.ClassFile.{ClassFile}
use Rattle.jvm_class_formats.specs.Reads.{Reads}
use Rattle.jvm_class_formats.specs.declared.errors.ReadErr.{ReadErr}
use Rattle.jvm_class_formats.specs.declared.errors.ReadErr.TheVariants as read_err
use Rattle.jvm_class_grammar.specs.File.{IsClassFile, read_of}
use Rattle.class_reader.specs.Bodies.{file_seen}
use Rattle.read_class.specs.Judging.{IsOfError, IsRefused, Judges}
use Rattle.read_class.specs.declared.judging.Judgement.{Judgement}

-- what comes of bytes that aren't read
pub of_error : (bytes : List ℕ) (error : ReadErr) (j : Judgement) → IsOfError error j
    → ((es : List Entry) (c : Class) → IsClassFile bytes es c → Reads {X = ClassFile} file_seen (Err error) (Ok (es, c)))
    → Reads {X = ClassFile} file_seen (Err error) (read_of bytes) → Judges bytes j
of_error bytes read_err.NoMemory j is only exact = subst (λ (k : Judgement). Judges bytes k) (sym is) tt
of_error bytes (read_err.BadBytes at) j is only exact =
    let bad : IsRefused bytes at = record {
      none = λ s. let never : ◌≡◌ {A = Result (List Entry × Class) ℕ} (Ok (s.0, s.1)) (Err at) = only s.0 s.1 s.2 in cc;
      first = exact;
    } in
    subst (λ (k : Judgement). Judges bytes k) (sym is) bad
