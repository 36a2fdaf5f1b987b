-- What a correct parser reads to the end is the one sentence, and what it refuses is the first token that no sentence has
-- there.
use Rattle.std.proofs.Common.{
  ◌≡◌,
  ℕ,
  ◌+◌,
  ◌-◌,
  ◌≤◌,
  ◌<◌,
  List,
  [],
  ◌∷◌,
  ◌++◌,
  length,
  take,
  Ok,
  Err,
  refl,
  sym,
  ap,
  subst,
  ◌∙◌,
  append_assoc,
  arith,
  inl,
  inr,
  length-append,
}
use Rattle.std.proofs.lemmas.List.{append-nil, take_at}
use Rattle.kt_grammar_parsers.specs.Parsers.{Cursor, Outcome, Parser, cursor}
use Rattle.kt_grammar_parsers.specs.Sentences.{IsSentence, IsPrefix, IsRefusedAt, OneValue}
use Rattle.kt_grammar_parsers.proofs.Ends.{Tied}
use Rattle.kt_grammar_parsers.proofs.Correct.{Begun, Correct, not_both}
use Rattle.kt_grammar_parsers.proofs.On.{Phrase}

module _ {T A : Type 0} (p : Parser T A) (L : A → List T → List T → Type 0) (G N : A → List T → Type 0) (C : Correct p L G N)
    (final : (a : A) → G a []) (final' : (a : A) → N a []) (some : Phrase L N) where
  start : (ts : List T) → Tied (cursor ts ts)
  start ts = record { whole = ts; before = []; before' = []; is = refl; is' = refl }

  pub read_is_sentence : (ts : List T) (a : A) (c : Cursor T) → p (cursor ts ts) ≡ Ok (a, c) → c.rest ≡ [] → IsSentence L ts a
  read_is_sentence ts a c e none =
      let x = C.sound (cursor ts ts) a c (start ts) e in
      let all : ts ≡ x.read = x.is ∙ ap (λ (z : List T). x.read ++ z) none ∙ append-nil x.read in
      subst (λ (z : List T). L a z []) (sym all) (subst (λ (z : List T). L a x.read z) none x.phrase)

  pub sentence_is_read : (ts : List T) (a : A) → IsSentence L ts a → (far : List T) × (p (cursor ts ts) ≡ Ok (a, cursor [] far))
  sentence_is_read ts a s =
      let x = C.complete a ts [] ts (subst (λ (z : List T). Tied (cursor z ts)) (sym (append-nil ts)) (start ts)) s (final a) in
      (x.far', ap (λ (z : List T). p (cursor z ts)) (sym (append-nil ts)) ∙ x.is)

  done : A × Cursor T → Outcome T A
  done x = Ok x

  done_is : (x y : A × Cursor T) → done x ≡ done y → x ≡ y
  unfolding done
  done_is x y e = cc

  pub one_value : OneValue L
  unfolding done
  one_value ts a b x y =
      let e = sentence_is_read ts a x in
      let f = sentence_is_read ts b y in
      ap (λ (q : A × Cursor T). q.0) (done_is (a, cursor [] e.0) (b, cursor [] f.0) (sym e.1 ∙ f.1))

  begun : (ts k : List T) → p (cursor ts ts) ≡ Err k → Begun L N ts k
  begun ts k e =
      let f = C.failed (cursor ts ts) k (start ts) e in
      elim f.far [
        | inl same ↦ record { read = []; more = some.tokens; whole = some.whole; is = sym same; phrase = some.phrase }
        | inr r ↦ r
      ]

  dead : (u : List T) (t : T) (v w : List T) (a : A) → p (cursor (u ++ t ∷ v) (u ++ t ∷ v)) ≡ Err (t ∷ v) → IsSentence L (u ++ t ∷ w) a → ⊥
  dead u t v w a e s =
      let before = u ++ t ∷ [] in
      let k : u ++ t ∷ v ≡ before ++ v = sym (append_assoc u (t ∷ []) v) in
      let d : before ++ w ≡ u ++ t ∷ w = append_assoc u (t ∷ []) w in
      let tied : Tied (cursor (before ++ v) (before ++ v)) = start (before ++ v) in
      let at-k : p (cursor (before ++ v) (before ++ v)) ≡ Err (t ∷ [] ++ v) = ap (λ (z : List T). p (cursor z z)) (sym k) ∙ e in
      let f : p (cursor (before ++ w) (before ++ w)) ≡ Err (t ∷ [] ++ w) = C.local_err before before (t ∷ []) v w tied (omega arith) at-k in
      let g = sentence_is_read (u ++ t ∷ w) a s in
      not_both (p (cursor (u ++ t ∷ w) (u ++ t ∷ w))) (a, cursor [] g.0) (t ∷ w) g.1 (ap (λ (z : List T). p (cursor z z)) (sym d) ∙ f)

  no_longer : (ts k read : List T) → ts ≡ read ++ k → p (cursor ts ts) ≡ Err k → (at : ℕ) → at ≡ length read → at < length ts → IsPrefix L (take (at + 1) ts) → ⊥
  no_longer ts [] read is e at a h q = omega (arith, ap length is, ap length (append-nil read))
  no_longer ts (t ∷ v) read is e at a h q =
      let regrouped : ts ≡ (read ++ t ∷ []) ++ v = is ∙ sym (append_assoc read (t ∷ []) v) in
      let front : take (at + 1) ts ≡ read ++ t ∷ [] = ap (take (at + 1)) regrouped ∙ take_at (read ++ t ∷ []) v (at + 1) (omega (arith, length-append read (t ∷ []))) in
      let longer : take (at + 1) ts ++ q.0 ≡ read ++ t ∷ q.0 = ap (λ (z : List T). z ++ q.0) front ∙ append_assoc read (t ∷ []) q.0 in
      dead read t v q.0 q.1 (ap (λ (z : List T). p (cursor z z)) (sym is) ∙ e) (subst (λ (z : List T). IsSentence L z q.1) longer q.2)

  pub refused_at_first : (ts k : List T) → p (cursor ts ts) ≡ Err k → IsRefusedAt L ts (length ts - length k)
  refused_at_first ts k e =
      let r = begun ts k e in
      let at-is : length ts - length k ≡ length r.read = omega (arith, ap length r.is, length-append r.read k) in
      let front : take (length ts - length k) ts ≡ r.read = ap (take (length ts - length k)) r.is ∙ take_at r.read k (length ts - length k) (sym at-is) in
      record {
        within = omega arith;
        prefix = (r.more, r.whole, subst (λ (z : List T). IsSentence L (z ++ r.more) r.whole) (sym front) (r.phrase [] (final' r.whole)));
        longer = λ h q. no_longer ts k r.read r.is e (length ts - length k) at-is h q;
        whole = λ a s. let g = sentence_is_read ts a s in not_both (p (cursor ts ts)) (a, cursor [] g.0) k g.1 e;
      }

  pub refused_within : (ts k : List T) → p (cursor ts ts) ≡ Err k → length k ≤ length ts
  refused_within ts k e = (C.failed (cursor ts ts) k (start ts) e).shorter
