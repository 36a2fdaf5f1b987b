-- Classes that are read, one after the other.
use Rattle.std.proofs.Common.{◌≡◌, ℕ, ◌+◌, ◌<◌, List, [], ◌∷◌, ◌++◌, length, map, take, drop, get_or, Result, Err, inl, sym, ap, ◌∙◌}
use Rattle.std.proofs.lemmas.List.{map-append, take_at}
use Rattle.std.specs.Prelude.{String, string_bytes}
use Rattle.std.specs.declared.alloc.Global.{Global}
use Rattle.jvm_class_types.specs.declared.classes.ClassFile.{ClassFile}
use Rattle.jvm_class_grammar.specs.File.{read_of}
use Rattle.kt_outside.specs.Held.{Contents}
use Rattle.class_answers.specs.Naming.{IsUnread, MayHold, NamesBad}
use Rattle.class_answers.specs.declared.answers.Answer.{Answer}
use Rattle.class_answers.specs.declared.answers.Answer.TheVariants as answer
use Rattle.verify_classes.specs.Reading.{AreRead, IsNot, IsReadAs}

pub read_next : (held : Contents) (names : List (List ℕ)) (name : List ℕ) (classes : List ClassFile) (class : ClassFile)
    → AreRead held names classes → IsReadAs held name class → AreRead held (names ++ name ∷ []) (classes ++ class ∷ [])
read_next held [] name [] class are is = (is, tt)
read_next held [] name (d ∷ classes) class are is = absurd are
read_next held (n ∷ names) name [] class are is = absurd are
read_next held (n ∷ names) name (d ∷ classes) class are is = (are.0, read_next held names name classes class are.1 is)

-- bytes that are no class file
pub bad_not : (held : Contents) (name : List ℕ) (before after : List (List ℕ)) (bytes : List ℕ) (at : ℕ) (a : Answer)
    → MayHold held name bytes → after ≡ before → read_of bytes ≡ Err at → NamesBad name at a → IsNot held name before after a
bad_not held name before after bytes at (answer.BadBytes file offset) holds none refused named = record {
  named = named.0;
  bytes = bytes;
  holds = holds;
  refused = rw named.1 refused;
  no_fault = none;
}
bad_not held name before after bytes at answer.NoMemory holds none refused named = inl none
bad_not held name before after bytes at answer.Fine holds none refused named = absurd named
bad_not held name before after bytes at (answer.Altered file) holds none refused named = absurd named
bad_not held name before after bytes at answer.Usage holds none refused named = absurd named
bad_not held name before after bytes at (answer.CannotRead file) holds none refused named = absurd named
bad_not held name before after bytes at (answer.Missing class) holds none refused named = absurd named
bad_not held name before after bytes at (answer.Cyclic class) holds none refused named = absurd named
bad_not held name before after bytes at answer.NoMain holds none refused named = absurd named
bad_not held name before after bytes at (answer.Rejected class method offset) holds none refused named = absurd named

-- a file that wasn't read
pub unread_not : (held : Contents) (name : List ℕ) (before after : List (List ℕ)) (a : Answer) → IsUnread name before after a
    → IsNot held name before after a
unread_not held name before after answer.NoMemory u = u
unread_not held name before after (answer.CannotRead file) u = u
unread_not held name before after answer.Fine u = absurd u
unread_not held name before after (answer.Altered file) u = absurd u
unread_not held name before after answer.Usage u = absurd u
unread_not held name before after (answer.BadBytes file at) u = absurd u
unread_not held name before after (answer.Missing class) u = absurd u
unread_not held name before after (answer.Cyclic class) u = absurd u
unread_not held name before after answer.NoMain u = absurd u
unread_not held name before after (answer.Rejected class method at) u = absurd u
