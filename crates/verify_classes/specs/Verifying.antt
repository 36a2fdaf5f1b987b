-- What the program answers.
use Rattle.std.specs.Prelude.{◌≡◌, ◌⊎◌, ℕ, List, [], ◌∷◌}
use Rattle.jvm_class_types.specs.declared.classes.ClassFile.{ClassFile}
use Rattle.kt_outside.specs.Held.{Contents}
use Rattle.class_answers.specs.Answers.{err_line, out_line, status_of}
use Rattle.class_answers.specs.Telling.{Stream, Tells}
use Rattle.class_answers.specs.declared.answers.Answer.{Answer}
use Rattle.class_answers.specs.declared.answers.Answer.TheVariants as answer
use Rattle.verify_classes.specs.Judging.{Judges}
use Rattle.verify_classes.specs.Reading.{AreRead, WhyNot}

-- each file gave a class, and this is answered of these classes
pub record IsJudged (held : Contents) (names : List (List ℕ)) (before after : List (List ℕ)) (a : Answer) : Type 0 where
  pub classes : List ClassFile
  pub read : AreRead held names classes
  pub judged : Judges classes a
  pub no_fault : after ≡ before

-- what is answered of these files
abbrev pub IsAnswer : Contents → List (List ℕ) → List (List ℕ) → List (List ℕ) → Answer → Type 0
IsAnswer held names before after a = IsJudged held names before after a ⊎ WhyNot held names before after a

-- what the program does: it tells the answer, whose status it has
pub record EndsSo (answers : Answer → Type 0) (out_before out_after err_before err_after : Stream) (status : ℕ) : Type 0 where
  pub told : Answer
  pub is : answers told
  pub status_is : status ≡ status_of told
  pub out : Tells out_before out_after (out_line told)
  pub err : Tells err_before err_after (err_line told)

abbrev pub AnswersWords : Contents → List (List ℕ) → List (List ℕ) → List (List ℕ) → Answer → Type 0
AnswersWords held [] before after a = (a ≡ answer.Usage) × (after ≡ before)
AnswersWords held (name ∷ names) before after a = IsAnswer held (name ∷ names) before after a

abbrev pub Ends : Contents → List (List ℕ) → List (List ℕ) → List (List ℕ) → Stream → Stream → Stream → Stream → ℕ → Type 0
Ends held names before after out_before out_after err_before err_after status =
    EndsSo (AnswersWords held names before after) out_before out_after err_before err_after status
