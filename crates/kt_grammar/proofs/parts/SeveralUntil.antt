-- Items with commas that a sign ends which may not end an item: then the last is a certain phrase.
use Rattle.std.proofs.Common.{
  ◌≡◌,
  ◌<◌,
  Bool,
  true,
  false,
  List,
  [],
  ◌∷◌,
  ◌++◌,
  length,
  refl,
  sym,
  ap,
  ◌∙◌,
  append_assoc,
  arith,
  inl,
  inr,
  ◌⊎◌,
  length-append,
}
use Rattle.std.proofs.lemmas.List.{append-nil}
use Rattle.kt_grammar_parsers.specs.Parsers.{
  Parser,
  first,
  ◌>>=◌,
  ◌>>◌,
  pure,
  token,
  skip,
  attempt,
  repeat,
  more_turn,
  several,
}
use Rattle.kt_grammar_parsers.specs.Phrases.{
  IsNothing,
  IsToken,
  IsSkipped,
  Seq,
  NotReads,
  FirstOf,
  Loop,
  ends,
  turns,
  MoreTurn,
  Several,
}
use Rattle.kt_grammar_parsers.proofs.Correct.{Correct, Completion}
use Rattle.kt_grammar_parsers.proofs.Bind.{bind_correct}
use Rattle.kt_grammar_parsers.proofs.Steps.{Any}
use Rattle.kt_grammar_parsers.proofs.On.{Phrase}
use Rattle.kt_grammar_parsers.proofs.Repeat.{repeat_correct}
use Rattle.kt_grammar_parsers.proofs.Optional.{seq_begins, token_begins, not_reads}
use Rattle.kt_grammar.proofs.parts.Sequences.{Part, Anything, then, past, made, one, where_part}

-- nothing stands before a comma
abbrev pub NoLead : {T : Type 0} → Unit {0} → List T → List T → Type 0
NoLead = IsNothing tt

abbrev pub no_lead : {T : Type 0} → Parser T (Unit {0})
no_lead = pure tt

module _ {T A : Type 0} (comma line : T → Bool) (a-comma : T) (is-comma : comma a-comma ≡ true) {item : Parser T A} {Item : A → List T → List T → Type 0} {Stop : List T → Type 0} (I : Part item Item Anything (λ _. Stop)) (comma_stops : (tail : List T) → Stop (a-comma ∷ tail))
    (End : List T → Type 0) (last : Phrase Item (λ _. End)) (no_line : (a : A) (u rest : List T) → Item a u rest → first line (u ++ rest) ≡ false) (end_no_comma : (tail : List T) → End tail → first comma tail ≡ false) where
  -- a comma, which nothing stands before
  abbrev IsComma : T → List T → List T → Type 0
  IsComma = Seq NoLead (λ _. IsToken comma)

  comma_part : Part (no_lead >> token comma) IsComma Anything (λ _. Anything)
  comma_part = then {F' = Anything} (made tt (λ tail h. tt)) (λ _. one comma a-comma is-comma (λ tail h. tt))

  comma_first : (t : T) (u rest : List T) → IsComma t u rest → first comma (u ++ rest) ≡ true
  comma_first t u rest s = ap (λ (z : List T). first comma (z ++ rest)) (s.is ∙ ap (λ (z : List T). z ++ s.back) s.phrase.none) ∙ token_begins comma t s.back rest s.phrase'

  no_comma : (tail : List T) → End tail → NotReads IsComma tail
  no_comma tail h = not_reads comma IsComma comma_first tail (end_no_comma tail h)

  abbrev TurnEnd : List A ⊎ List A → List T → Type 0
  TurnEnd (inl xs) tail = Stop tail
  TurnEnd (inr xs) tail = End tail

  next_part : (xs : List A) → Part (skip line >> (item >>= (λ x. pure (inl (xs ++ x ∷ []))))) (Seq (IsSkipped line) (λ _. Seq Item (λ x. IsNothing (inl (xs ++ x ∷ []))))) Anything TurnEnd
  next_part xs = past (λ b u rest s. seq_begins line Item (λ x. IsNothing (inl (xs ++ x ∷ []))) false no_line b u rest s) (then I (λ x. made (inl (xs ++ x ∷ [])) (λ tail h. h)))

  turn_part : (xs : List A) → Part (more_turn no_lead comma line item xs) (MoreTurn NoLead comma line Item xs) End TurnEnd
  turn_part xs = where_part comma_part (λ _. next_part xs) (made (inr xs) (λ tail h. h)) no_comma

  turn_eats : (xs ys : List A) (u rest : List T) → MoreTurn NoLead comma line Item xs (inl ys) u rest → 0 < length u
  turn_eats xs ys u rest (inl s) = omega (arith, ap length s.is, length-append s.front s.back, ap length s.phrase.is, length-append s.phrase.front s.phrase.back, ap length s.phrase.phrase'.one)
  turn_eats xs ys u rest (inr m) = absurd (let e : inl ys ≡ inr xs = m.0.value in cc)

  abbrev Turns : List A → List A → List T → List T → Type 0
  Turns = Loop (MoreTurn NoLead comma line Item)

  no_more : (xs : List A) (tail : List T) → End tail → Turns xs xs [] tail
  no_more xs tail h = ends (inr (record { value = refl; none = refl }, no_comma tail h))

  -- a comma and the certain item
  last_turn : (xs : List A) (tail : List T) → End tail → MoreTurn NoLead comma line Item xs (inl (xs ++ last.whole ∷ [])) (a-comma ∷ last.tokens) tail
  last_turn xs tail h =
      let l = last.phrase tail h in
      inl (record {
        value = a-comma;
        front = a-comma ∷ [];
        back = last.tokens;
        is = refl;
        phrase = record { value = tt; front = []; back = a-comma ∷ []; is = refl; phrase = record { value = refl; none = refl }; phrase' = record { passes = is-comma; one = refl } };
        phrase' = record {
          value = tt;
          front = [];
          back = last.tokens;
          is = refl;
          phrase = record { pass = tt; all = no_line last.whole last.tokens tail l };
          phrase' = record { value = last.whole; front = last.tokens; back = []; is = sym (append-nil last.tokens); phrase = l; phrase' = record { value = refl; none = refl } };
        };
      })

  closing : (xs : List A) → Completion (λ (ys : List A). Stop) xs (Turns xs) (λ _. End)
  closing xs = record {
    whole = xs ++ last.whole ∷ [];
    tokens = a-comma ∷ last.tokens;
    phrase = λ tail h. (turns (last_turn xs tail h) (no_more (xs ++ last.whole ∷ []) tail h) (sym (append-nil (a-comma ∷ last.tokens))), comma_stops (last.tokens ++ tail));
  }

  turns_correct : (xs : List A) → Correct (repeat (more_turn no_lead comma line item) xs) (Turns xs) Any (λ _. End)
  turns_correct xs = repeat_correct (more_turn no_lead comma line item) (MoreTurn NoLead comma line Item) Any TurnEnd Any (λ _. End) (λ ys. (turn_part ys).correct) turn_eats (λ y b u rest l g. tt) (λ b rest g. tt) (λ b rest h. h)
      (λ x y u l. let c = closing y in record { whole = c.whole; tokens = c.tokens; phrase = c.phrase }) xs

  pub several_part : Part (several no_lead comma line item) (Several NoLead comma line Item) Anything (λ _. End)
  several_part = record {
    correct = bind_correct item (λ x. repeat (more_turn no_lead comma line item) (x ∷ [])) Item (λ x. Turns (x ∷ [])) Any (λ _. Stop) Any (λ _. End) I.correct (λ x. turns_correct (x ∷ [])) (λ a b u rest l h. tt)
        (λ a u l. let c = closing (a ∷ []) in record { whole = c.whole; tokens = c.tokens; phrase = c.phrase });
    whole = last.whole ∷ [];
    tokens = last.tokens;
    phrase = λ tail h. (record { value = last.whole; front = last.tokens; back = []; is = sym (append-nil last.tokens); phrase = last.phrase tail h; phrase' = no_more (last.whole ∷ []) tail h }, tt);
  }
