-- What is answered of files.
use Rattle.std.specs.Prelude.{◌≡◌, ◌==◌, if◌then◌else◌, ℕ, List, [], ◌∷◌, string_bytes}
use Rattle.std.specs.List.{flat_map}
use Rattle.kt_outside.specs.Faults.{Adds, MayAdd}
use Rattle.kt_outside.specs.Held.{Contents}
use Rattle.class_answers.specs.Answers.{err_line, out_line, status_of}
use Rattle.class_answers.specs.Naming.{MayHold}
use Rattle.class_answers.specs.Telling.{Stream, Tells}
use Rattle.class_answers.specs.declared.answers.Answer.{Answer}
use Rattle.class_answers.specs.declared.answers.Answer.TheVariants as answer
use Rattle.read_class.specs.Judging.{JudgesFile}

-- the file was read, and this is answered of what it holds
pub record IsRead (held : Contents) (name : List ℕ) (before after : List (List ℕ)) (a : Answer) : Type 0 where
  pub bytes : List ℕ
  pub holds : MayHold held name bytes
  pub judged : JudgesFile name bytes a
  pub no_fault : after ≡ before

-- What is answered of the file of this name: the lists are the names at which a read failed, before and after.
abbrev pub IsAnswer : Contents → List ℕ → List (List ℕ) → List (List ℕ) → Answer → Type 0
IsAnswer held name before after answer.NoMemory = MayAdd name before after
IsAnswer held name before after (answer.CannotRead file) = (string_bytes file ≡ name) × Adds name before after
IsAnswer held name before after a = IsRead held name before after a

-- what is answered of each of these files, which are read one after the other
abbrev pub AreAnswers : Contents → List (List ℕ) → List (List ℕ) → List (List ℕ) → List Answer → Type 0
AreAnswers held [] before after [] = after ≡ before
AreAnswers held [] before after (a ∷ answers) = ⊥
AreAnswers held (name ∷ names) before after [] = ⊥
AreAnswers held (name ∷ names) before after (a ∷ answers) =
    (between : List (List ℕ)) × IsAnswer held name before between a × AreAnswers held names between after answers

-- the status of the first answer whose status isn't 0
abbrev pub status_of_all : List Answer → ℕ
status_of_all [] = 0
status_of_all (a ∷ answers) = if status_of a == 0 then status_of_all answers else status_of a

-- the status behind one more answer
abbrev pub later : ℕ → Answer → ℕ
later status a = if status == 0 then status_of a else status

-- Of each file its line was told, on the output or on the stream of errors; the status is that of the first that isn't a
-- class file.
pub record Told (held : Contents) (names : List (List ℕ)) (before after : List (List ℕ)) (out_before out_after : Stream)
    (err_before err_after : Stream) (status : ℕ) : Type 0 where
  pub answers : List Answer
  pub are : AreAnswers held names before after answers
  pub status_is : status ≡ status_of_all answers
  pub out : Tells out_before out_after (flat_map out_line answers)
  pub err : Tells err_before err_after (flat_map err_line answers)

-- the words name no file
pub record TellsUsage (before after : List (List ℕ)) (out_before out_after : Stream) (err_before err_after : Stream)
    (status : ℕ) : Type 0 where
  pub nothing_read : after ≡ before
  pub status_is : status ≡ status_of answer.Usage
  pub out : Tells out_before out_after (out_line answer.Usage)
  pub err : Tells err_before err_after (err_line answer.Usage)

-- what the program does
abbrev pub Ends : Contents → List (List ℕ) → List (List ℕ) → List (List ℕ) → Stream → Stream → Stream → Stream → ℕ → Type 0
Ends held [] before after out_before out_after err_before err_after status =
    TellsUsage before after out_before out_after err_before err_after status
Ends held (name ∷ names) before after out_before out_after err_before err_after status =
    Told held (name ∷ names) before after out_before out_after err_before err_after status
