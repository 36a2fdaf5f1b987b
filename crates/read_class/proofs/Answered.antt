-- One answer more.
use Rattle.std.proofs.Common.{◌≡◌, ◌≤◌, ℕ, List, [], ◌∷◌, ◌++◌, inl, refl, sym, ap, subst, ◌∙◌}
use Rattle.std.specs.List.{flat_map}
use Rattle.std.proofs.lemmas.Grind.{flat_map-append}
use Rattle.std.proofs.lemmas.List.{append-nil}
use Rattle.kt_outside.specs.Held.{Contents}
use Rattle.class_answers.specs.Answers.{err_line, out_line, status_of}
use Rattle.class_answers.specs.Naming.{IsUnread, MayHold}
use Rattle.class_answers.specs.Telling.{Stream, Tells}
use Rattle.class_answers.specs.declared.answers.Answer.{Answer}
use Rattle.class_answers.specs.declared.answers.Answer.TheVariants as answer
use Rattle.class_answers.proofs.Streams.{tells_more}
use Rattle.read_class.specs.Judging.{JudgesFile}
use Rattle.read_class.specs.Reading.{AreAnswers, IsAnswer, later, status_of_all, Told}

-- what is answered of a file that was read
pub read_answer : (held : Contents) (name : List ℕ) (before after : List (List ℕ)) (bytes : List ℕ) (a : Answer)
    → MayHold held name bytes → after ≡ before → JudgesFile name bytes a → IsAnswer held name before after a
read_answer held name before after bytes answer.Fine holds none j = record { bytes = bytes; holds = holds; judged = j; no_fault = none }
read_answer held name before after bytes (answer.BadBytes file at) holds none j = record { bytes = bytes; holds = holds; judged = j; no_fault = none }
read_answer held name before after bytes answer.NoMemory holds none j = inl none
read_answer held name before after bytes (answer.Altered file) holds none j = absurd j
read_answer held name before after bytes answer.Usage holds none j = absurd j
read_answer held name before after bytes (answer.CannotRead file) holds none j = absurd j
read_answer held name before after bytes (answer.Missing class) holds none j = absurd j
read_answer held name before after bytes (answer.Cyclic class) holds none j = absurd j
read_answer held name before after bytes answer.NoMain holds none j = absurd j
read_answer held name before after bytes (answer.Rejected class method at) holds none j = absurd j

-- what is answered of a file that wasn't
pub unread_answer : (held : Contents) (name : List ℕ) (before after : List (List ℕ)) (a : Answer)
    → IsUnread name before after a → IsAnswer held name before after a
unread_answer held name before after answer.NoMemory u = u
unread_answer held name before after (answer.CannotRead file) u = u
unread_answer held name before after answer.Fine u = absurd u
unread_answer held name before after (answer.Altered file) u = absurd u
unread_answer held name before after answer.Usage u = absurd u
unread_answer held name before after (answer.BadBytes file at) u = absurd u
unread_answer held name before after (answer.Missing class) u = absurd u
unread_answer held name before after (answer.Cyclic class) u = absurd u
unread_answer held name before after answer.NoMain u = absurd u
unread_answer held name before after (answer.Rejected class method at) u = absurd u

answers_more : (held : Contents) (names : List (List ℕ)) (name : List ℕ) (before mid after : List (List ℕ)) (answers : List Answer)
    (a : Answer) → AreAnswers held names before mid answers → IsAnswer held name mid after a
    → AreAnswers held (names ++ name ∷ []) before after (answers ++ a ∷ [])
answers_more held [] name before mid after [] a are is =
    (after, subst (λ (m : List (List ℕ)). IsAnswer held name m after a) are is, refl)
answers_more held [] name before mid after (b ∷ answers) a are is = absurd are
answers_more held (n ∷ names) name before mid after [] a are is = absurd are
answers_more held (n ∷ names) name before mid after (b ∷ answers) a are is =
    (are.0, are.1, answers_more held names name are.0 mid after answers a are.2 is)

alone : (a : Answer) → status_of_all (a ∷ []) ≡ status_of a
alone answer.Fine = refl
alone (answer.Altered file) = refl
alone answer.Usage = refl
alone answer.NoMemory = refl
alone (answer.CannotRead file) = refl
alone (answer.BadBytes file at) = refl
alone (answer.Missing class) = refl
alone (answer.Cyclic class) = refl
alone answer.NoMain = refl
alone (answer.Rejected class method at) = refl

status_more : (answers : List Answer) (a : Answer) → status_of_all (answers ++ a ∷ []) ≡ later (status_of_all answers) a
status_more [] a = alone a
status_more (answer.Fine ∷ answers) a = status_more answers a
status_more ((answer.Altered file) ∷ answers) a = refl
status_more (answer.Usage ∷ answers) a = refl
status_more (answer.NoMemory ∷ answers) a = refl
status_more ((answer.CannotRead file) ∷ answers) a = refl
status_more ((answer.BadBytes file at) ∷ answers) a = refl
status_more ((answer.Missing class) ∷ answers) a = refl
status_more ((answer.Cyclic class) ∷ answers) a = refl
status_more (answer.NoMain ∷ answers) a = refl
status_more ((answer.Rejected class method at) ∷ answers) a = refl

one_more : (f : Answer → List ℕ) (answers : List Answer) (a : Answer) → flat_map f (answers ++ a ∷ []) ≡ flat_map f answers ++ f a
one_more f answers a = flat_map-append f answers (a ∷ []) ∙ ap (λ (l : List ℕ). flat_map f answers ++ l) (append-nil (f a))

pub told_more : (held : Contents) (names : List (List ℕ)) (name : List ℕ) (before mid after : List (List ℕ))
    (o0 o1 o2 e0 e1 e2 : Stream) (s : ℕ) (a : Answer) → Told held names before mid o0 o1 e0 e1 s → IsAnswer held name mid after a
    → o0.faults ≤ o1.faults → o1.faults ≤ o2.faults → e0.faults ≤ e1.faults → e1.faults ≤ e2.faults
    → Tells o1 o2 (out_line a) → Tells e1 e2 (err_line a)
    → Told held (names ++ name ∷ []) before after o0 o2 e0 e2 (later s a)
told_more held names name before mid after o0 o1 o2 e0 e1 e2 s a t is o01 o12 e01 e12 out err = record {
  answers = t.answers ++ a ∷ [];
  are = answers_more held names name before mid after t.answers a t.are is;
  status_is = ap (λ (n : ℕ). later n a) t.status_is ∙ sym (status_more t.answers a);
  out = subst (λ (text : List ℕ). Tells o0 o2 text) (sym (one_more out_line t.answers a))
      (tells_more o0 o1 o2 (flat_map out_line t.answers) (out_line a) o01 o12 t.out out);
  err = subst (λ (text : List ℕ). Tells e0 e2 text) (sym (one_more err_line t.answers a))
      (tells_more e0 e1 e2 (flat_map err_line t.answers) (err_line a) e01 e12 t.err err);
}
