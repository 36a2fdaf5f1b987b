-- Classes that are read from files.
use Rattle.std.specs.Prelude.{◌≡◌, ℕ, List, [], ◌∷◌, ◌++◌, Err, string_bytes}
use Rattle.jvm_class_types.specs.Seen.{class_seen}
use Rattle.jvm_class_types.specs.declared.classes.ClassFile.{ClassFile}
use Rattle.jvm_class_grammar.specs.File.{IsClassFile, read_of}
use Rattle.kt_outside.specs.Held.{Contents}
use Rattle.class_answers.specs.Naming.{IsUnread, MayHold}
use Rattle.class_answers.specs.declared.answers.Answer.{Answer}
use Rattle.class_answers.specs.declared.answers.Answer.TheVariants as answer

-- the file of this name is the class file of the class
pub record IsReadAs (held : Contents) (name : List ℕ) (class : ClassFile) : Type 0 where
  pub bytes : List ℕ
  pub holds : MayHold held name bytes
  pub spells : IsClassFile bytes class.pool (class_seen class)

-- the files are the class files of the classes, in this order
abbrev pub AreRead : Contents → List (List ℕ) → List ClassFile → Type 0
AreRead held [] [] = Unit {0}
AreRead held [] (class ∷ classes) = ⊥
AreRead held (name ∷ names) [] = ⊥
AreRead held (name ∷ names) (class ∷ classes) = IsReadAs held name class × AreRead held names classes

-- the file of this name holds bytes that are the class file of no class: the reader refuses them at the offset
pub record IsBad (held : Contents) (name : List ℕ) (before after : List (List ℕ)) (file : List ℕ) (at : ℕ) : Type 0 where
  pub named : file ≡ name
  pub bytes : List ℕ
  pub holds : MayHold held name bytes
  pub refused : read_of bytes ≡ Err at
  pub no_fault : after ≡ before

-- what is answered of the file of this name, which gives no class
abbrev pub IsNot : Contents → List ℕ → List (List ℕ) → List (List ℕ) → Answer → Type 0
IsNot held name before after (answer.BadBytes file at) = IsBad held name before after (string_bytes file) at
IsNot held name before after a = IsUnread name before after a

-- The answer is that of the first file that gives no class: those before it give some.
pub record WhyNot (held : Contents) (names : List (List ℕ)) (before after : List (List ℕ)) (a : Answer) : Type 0 where
  pub front : List (List ℕ)
  pub name : List ℕ
  pub behind : List (List ℕ)
  pub names_are : names ≡ front ++ name ∷ behind
  pub classes : List ClassFile
  pub read : AreRead held front classes
  pub answered : IsNot held name before after a
