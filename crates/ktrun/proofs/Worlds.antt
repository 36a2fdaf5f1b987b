-- The world of a program that prints values and returns.
use Rattle.std.proofs.Common.{◌≡◌, ℕ, ℤ, List, [], ◌∷◌, ◌++◌, length, map, Option, Some, refl, sym, ap, subst, ◌∙◌}
use Rattle.std.proofs.lemmas.List.{append_assoc, append-nil}
use Rattle.std.specs.Prelude.{option_and_then, option_map, slice_get}
use Rattle.kt_base.specs.declared.lumps.Lump.{Lump}
use Rattle.kt_base.specs.declared.events.Answer.{Answer}
use Rattle.kt_base.specs.declared.events.Answer.TheVariants as answer
use Rattle.kt_base.specs.declared.events.End.{End}
use Rattle.kt_base.specs.declared.events.End.TheVariants as end
use Rattle.kt_base.specs.declared.events.Halt.TheVariants as halt
use Rattle.kt_base.specs.declared.events.Start.TheVariants as start
use Rattle.kt_base.specs.History.{Entry, History, reply}
use Rattle.kt_base.specs.Meaning.{Program, next_event}
use Rattle.kt_base.specs.World.{start_of, coroutines, answers_of, step, played, world, stands, halt_of, IsFinal}
use Rattle.kt_base.specs.Report.{printed, output_text}
use Rattle.ktrun.specs.FirstRuns.{print_of, text_of, course_of, meaning_of}

abbrev Answers : Type 0
Answers = List (Answer Lump)

-- each value is printed
abbrev dones : List ℤ → Answers
dones values = map (λ _. answer.Done) values

abbrev entry : ℤ → Entry
entry n = record { coroutine = 0; asked = print_of n; answered = answer.Done }

-- the history after these prints
abbrev pub onto : History → List ℤ → History
onto history [] = history
onto history (n ∷ values) = onto (entry n ∷ history) values

asks : (done : List ℤ) (n : ℤ) (values : List ℤ) → slice_get (course_of (done ++ n ∷ values) (dones done)).events (length (dones done)) ≡ Some (print_of n)
asks [] n values = refl
asks (m ∷ done) n values = asks done n values

ends : (values : List ℤ) → (course_of values (dones values)).end ≡ Some end.Returned
ends [] = refl
ends (n ∷ values) = ends values

dones_more : (done : List ℤ) (n : ℤ) → dones done ++ answer.Done ∷ [] ≡ dones (done ++ n ∷ [])
dones_more [] n = refl
dones_more (m ∷ done) n = ap (λ l. answer.Done ∷ l) (dones_more done n)

-- a step prints the next value
prints_next : (numbers : ℕ) (done : List ℤ) (n : ℤ) (values : List ℤ) (history : History)
    → start_of history 0 ≡ Some start.Main → answers_of 0 history ≡ dones done
    → step (meaning_of (done ++ n ∷ values)) numbers history 0 ≡ Some (entry n)
prints_next numbers done n values history began answered =
    let asked : next_event (meaning_of (done ++ n ∷ values)) start.Main (answers_of 0 history) ≡ Some (print_of n) =
    ap (λ (l : Answers). next_event (meaning_of (done ++ n ∷ values)) start.Main l) answered ∙ asks done n values in
    ap (λ o. option_and_then (λ start. option_and_then (λ asked. option_map (λ answered. record { coroutine = 0; asked = asked; answered = answered })
    (reply numbers history asked)) (next_event (meaning_of (done ++ n ∷ values)) start (answers_of 0 history))) o) began
    ∙ ap (λ o. option_and_then (λ asked. option_map (λ answered. record { coroutine = 0; asked = asked; answered = answered }) (reply numbers history asked)) o) asked

-- the rest of the values is printed
prints_rest : (numbers : ℕ) (done values : List ℤ) (history : History)
    → start_of history 0 ≡ Some start.Main → answers_of 0 history ≡ dones done
    → played (meaning_of (done ++ values)) numbers history (map (λ _. 0) values) ≡ Some (onto history values)
prints_rest numbers done [] history began answered = refl
prints_rest numbers done (n ∷ values) history began answered =
    let next = prints_next numbers done n values history began answered in
    let rest = prints_rest numbers (done ++ n ∷ []) values (entry n ∷ history) began (ap (λ l. l ++ answer.Done ∷ []) answered ∙ dones_more done n) in
    ap (λ o. option_and_then (λ entry. played (meaning_of (done ++ n ∷ values)) numbers (entry ∷ history) (map (λ _. 0) values)) o) next
    ∙ ap (λ l. played (meaning_of l) numbers (entry n ∷ history) (map (λ _. 0) values)) (sym (append_assoc done (n ∷ []) values))
    ∙ rest

-- the world is defined
pub prints_all : (numbers : ℕ) (values : List ℤ) → world (meaning_of values) numbers (map (λ _. 0) values) ≡ Some (onto [] values)
prints_all numbers values = prints_rest numbers [] values [] refl refl

begins : (history : History) (values : List ℤ) → start_of (onto history values) 0 ≡ start_of history 0
begins history [] = refl
begins history (n ∷ values) = begins (entry n ∷ history) values

alone : (history : History) (values : List ℤ) → coroutines (onto history values) ≡ coroutines history
alone history [] = refl
alone history (n ∷ values) = alone (entry n ∷ history) values ∙ append-nil (coroutines history)

answered_all : (history : History) (values : List ℤ) → answers_of 0 (onto history values) ≡ answers_of 0 history ++ dones values
answered_all history [] = sym (append-nil (answers_of 0 history))
answered_all history (n ∷ values) = answered_all (entry n ∷ history) values ∙ append_assoc (answers_of 0 history) (answer.Done ∷ []) (dones values)

-- `main` has returned then
returned : (numbers : ℕ) (values : List ℤ) → halt_of (meaning_of values) numbers (onto [] values) 0 ≡ Some (halt.Ended end.Returned)
returned numbers values =
    let program : Program = meaning_of values in
    let history = onto [] values in
    let done : (course_of values (answers_of 0 history)).end ≡ Some end.Returned = ap (λ (l : Answers). (course_of values l).end) (answered_all [] values) ∙ ends values in
    let asked = next_event program start.Main (answers_of 0 history) in
    ap (λ o. option_and_then (λ start.
    let answers = answers_of 0 history in
    let asked = next_event program start answers in
    stands (program start answers).end asked (option_and_then (reply numbers history) asked)) o) (begins [] values)
    ∙ ap (λ (o : Option End). stands o asked (option_and_then (reply numbers history) asked)) done

-- no coroutine can go on
pub finishes : (numbers : ℕ) (values : List ℤ) → IsFinal (meaning_of values) numbers (onto [] values) ((0, halt.Ended end.Returned) ∷ [])
finishes numbers values = subst (λ l. Rattle.kt_base.specs.World.AllStand (meaning_of values) numbers (onto [] values) l ((0, halt.Ended end.Returned) ∷ [])) (sym (alone [] values)) (refl, returned numbers values, tt)

-- what was printed
pub writes : (history : History) (values : List ℤ) → output_text (onto history values) ≡ output_text history ++ text_of values
writes history [] = sym (append-nil (output_text history))
writes history (n ∷ values) = writes (entry n ∷ history) values ∙ append_assoc (output_text history) (printed (print_of n)) (text_of values)
