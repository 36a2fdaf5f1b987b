-- What is answered of bytes: whether they are the class file of some class.
use Rattle.std.specs.Prelude.{◌≡◌, ℕ, List, Err, string_bytes}
use Rattle.jvm_pool.specs.declared.entries.Entry.{Entry}
use Rattle.jvm_class_types.specs.Seen.{Class}
use Rattle.jvm_class_formats.specs.declared.errors.ReadErr.{ReadErr}
use Rattle.jvm_class_formats.specs.declared.errors.ReadErr.TheVariants as read_err
use Rattle.jvm_class_grammar.specs.File.{IsClassFile, read_of}
use Rattle.class_answers.specs.declared.answers.Answer.{Answer}
use Rattle.class_answers.specs.declared.answers.Answer.TheVariants as answer
use Rattle.read_class.specs.declared.judging.Judgement.{Judgement}
use Rattle.read_class.specs.declared.judging.Judgement.TheVariants as judgement

-- some class has this spelling
abbrev pub IsSpelling : List ℕ → Type 0
IsSpelling bytes = (es : List Entry) × (c : Class) × IsClassFile bytes es c

-- no class has this spelling: the offset is that of the reader, the first item in file order that breaks its rule
pub record IsRefused (bytes : List ℕ) (at : ℕ) : Type 0 where
  pub none : IsSpelling bytes → ⊥
  pub first : read_of bytes ≡ Err at

-- what an error of the reader is
abbrev pub IsOfError : ReadErr → Judgement → Type 0
IsOfError (read_err.BadBytes at) j = j ≡ judgement.Bad at
IsOfError read_err.NoMemory j = j ≡ judgement.NoMemory

abbrev pub Judges : List ℕ → Judgement → Type 0
Judges bytes judgement.Same = IsSpelling bytes
Judges bytes judgement.Other = ⊥
Judges bytes (judgement.Bad at) = IsRefused bytes at
Judges bytes judgement.NoMemory = Unit {0}

-- what is answered of a file of this name that holds these bytes
abbrev pub JudgesFile : List ℕ → List ℕ → Answer → Type 0
JudgesFile name bytes answer.Fine = IsSpelling bytes
JudgesFile name bytes (answer.BadBytes file at) = (string_bytes file ≡ name) × IsRefused bytes at
JudgesFile name bytes answer.NoMemory = Unit {0}
JudgesFile name bytes _ = ⊥
