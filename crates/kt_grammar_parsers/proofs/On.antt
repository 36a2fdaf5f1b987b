-- A choice by the next token, which it takes, or examines in vain.
use Rattle.std.proofs.Common.{
  ◌≡◌,
  ◌<◌,
  Bool,
  true,
  false,
  List,
  [],
  ◌∷◌,
  ◌++◌,
  length,
  Ok,
  Err,
  refl,
  sym,
  ap,
  subst,
  ◌∙◌,
  arith,
  inl,
  inr,
  ◌⊎◌,
  length-append,
}
use Rattle.kt_grammar_parsers.specs.Parsers.{Cursor, Parser, cursor, further, first, ◌>>=◌, token, on}
use Rattle.kt_grammar_parsers.specs.Phrases.{IsToken, Seq, Either}
use Rattle.kt_grammar_parsers.proofs.Ends.{Tied, picks, further_cases, further_short, tied_mark}
use Rattle.kt_grammar_parsers.proofs.Correct.{Begun, Reading, Refusal, Accepted, Correct}
use Rattle.kt_grammar_parsers.proofs.Bind.{bind_correct}
use Rattle.kt_grammar_parsers.proofs.Steps.{Any, truth, token_correct}

-- a phrase of the language, whatever follows that N allows
pub record Phrase {T B : Type 0} (L : B → List T → List T → Type 0) (N : B → List T → Type 0) : Type 0 where
  pub whole : B
  pub tokens : List T
  pub phrase : (tail : List T) → N whole tail → L whole tokens tail

pub first_same : {T : Type 0} (test : T → Bool) (u k d : List T) → 0 < length u → first test (u ++ k) ≡ first test (u ++ d)
first_same test [] k d h = absurd (omega arith)
first_same test (t ∷ u) k d h = refl

module _ {T B : Type 0} (test : T → Bool) (witness : T) (passes : test witness ≡ true) (go : T → Parser T B) (other : Parser T B)
    (M : T → B → List T → List T → Type 0) (L : B → List T → List T → Type 0) (G N : B → List T → Type 0)
    (P : (t : T) → Correct (go t) (M t) G N) (Q : Correct other L G N)
    (some : (t : T) → test t ≡ true → Phrase (M t) N)
    (others : (b : B) (u rest : List T) → L b u rest → G b rest → first test (u ++ rest) ≡ false) where
  abbrev One : B → List T → List T → Type 0
  One = Seq (IsToken test) M

  abbrev Lang : B → List T → List T → Type 0
  Lang = Either One L

  one : Correct (token test >>= go) One G N
  one = bind_correct (token test) go (IsToken test) M Any Any G N (token_correct test witness passes Any Any) P (λ a b u rest l h. tt)
      (λ a u l. let s = some a (l [] tt).passes in record { whole = s.whole; tokens = s.tokens; phrase = λ tail h. (s.phrase tail h, tt) })

  one_phrase : Phrase One N
  one_phrase = let s = some witness passes in
      record { whole = s.whole; tokens = witness ∷ s.tokens; phrase = λ tail h. record { value = witness; front = witness ∷ []; back = s.tokens; is = refl; phrase = record { passes = passes; one = refl }; phrase' = s.phrase tail h } }

  yes_at : (ts far : List T) → first test ts ≡ true → on test go other (cursor ts far) ≡ (token test >>= go) (cursor ts far)
  unfolding on token
  yes_at [] far h = absurd cc
  yes_at (t ∷ ts) far h = rw h refl

  no_at : (ts far : List T) → first test ts ≡ false → on test go other (cursor ts far) ≡ other (cursor ts (further ts far))
  unfolding on
  no_at [] far h = refl
  no_at (t ∷ ts) far h = rw h refl

  yes : (c : Cursor T) → first test c.rest ≡ true → on test go other c ≡ (token test >>= go) c
  yes c e = yes_at c.rest c.far e

  no : (c : Cursor T) → first test c.rest ≡ false → on test go other c ≡ other (cursor c.rest (further c.rest c.far))
  no c e = no_at c.rest c.far e

  begins : (b : B) (u rest : List T) → One b u rest → first test (u ++ rest) ≡ true
  begins b u rest s = ap (λ (z : List T). first test (z ++ rest)) (s.is ∙ ap (λ (z : List T). z ++ s.back) s.phrase.one) ∙ s.phrase.passes

  eats : (b : B) (u rest : List T) → One b u rest → 0 < length u
  eats b u rest s = omega (arith, ap length s.is, length-append s.front s.back, ap length s.phrase.one)

  from_one : (c : Cursor T) (k : List T) → (k ≡ c.far) ⊎ Begun One N c.rest k → (k ≡ c.far) ⊎ Begun Lang N c.rest k
  from_one c k (inl e) = inl e
  from_one c k (inr x) = inr (record { read = x.read; more = x.more; whole = x.whole; is = x.is; phrase = λ tail h. inl (x.phrase tail h) })

  mark_far : (c : Cursor T) (k : List T) → k ≡ further c.rest c.far → (k ≡ c.far) ⊎ Begun Lang N c.rest k
  mark_far c k e = elim (further_cases c.rest c.far) [
    | inl f ↦ inr (record { read = []; more = one_phrase.tokens; whole = one_phrase.whole; is = sym (e ∙ f.1); phrase = λ tail h. inl (one_phrase.phrase tail h) })
    | inr f ↦ inl (e ∙ f.1)
  ]

  from_other : (c : Cursor T) (k : List T) → (k ≡ further c.rest c.far) ⊎ Begun L N c.rest k → (k ≡ c.far) ⊎ Begun Lang N c.rest k
  from_other c k (inl e) = mark_far c k e
  from_other c k (inr x) = inr (record { read = x.read; more = x.more; whole = x.whole; is = x.is; phrase = λ tail h. inr (x.phrase tail h) })

  tied : (c : Cursor T) → Tied c → Tied (cursor c.rest (further c.rest c.far))
  tied c t = tied_mark c [] c.rest t refl

  on_sound : (c : Cursor T) (b : B) (c' : Cursor T) → Tied c → on test go other c ≡ Ok (b, c') → Reading Lang N c b c'
  on_sound c b c' t e = elim (truth (first test c.rest)) [
    | inl y ↦ let x = one.sound c b c' t (sym (yes c y) ∙ e) in record { read = x.read; is = x.is; phrase = inl x.phrase; far = from_one c c'.far x.far; shorter = x.shorter }
    | inr y ↦ let x = Q.sound (cursor c.rest (further c.rest c.far)) b c' (tied c t) (sym (no c y) ∙ e) in
        record { read = x.read; is = x.is; phrase = inr x.phrase; far = from_other c c'.far x.far; shorter = omega (arith, x.shorter, (further_short c.rest c.far).1) }
  ]

  on_failed : (c : Cursor T) (k : List T) → Tied c → on test go other c ≡ Err k → Refusal Lang N c k
  on_failed c k t e = elim (truth (first test c.rest)) [
    | inl y ↦ let x = one.failed c k t (sym (yes c y) ∙ e) in record { far = from_one c k x.far; shorter = x.shorter; inside = x.inside }
    | inr y ↦ let x = Q.failed (cursor c.rest (further c.rest c.far)) k (tied c t) (sym (no c y) ∙ e) in
        record { far = from_other c k x.far; shorter = omega (arith, x.shorter, (further_short c.rest c.far).1); inside = x.inside }
  ]

  on_complete : (b : B) (u rest far : List T) → Tied (cursor (u ++ rest) far) → Lang b u rest → G b rest → Accepted (on test go other) b u rest far
  on_complete b u rest far t (inl l) g = let x = one.complete b u rest far t l g in record { far' = x.far'; is = yes (cursor (u ++ rest) far) (begins b u rest l) ∙ x.is }
  on_complete b u rest far t (inr m) g =
      let x = Q.complete b u rest (further (u ++ rest) far) (tied (cursor (u ++ rest) far) t) m g in
      record { far' = x.far'; is = no (cursor (u ++ rest) far) (others b u rest m g) ∙ x.is }

  here : (b : Bool) (u k d : List T) → 0 < length u → first test (u ++ k) ≡ b → first test (u ++ d) ≡ b
  here b u k d h e = sym (first_same test u k d h) ∙ e

  marked_at : (u z k : List T) → other (cursor (u ++ k) (further (u ++ k) (z ++ k))) ≡ other (cursor (u ++ k) ((picks u z).front ++ k))
  marked_at u z k = ap (λ (q : List T). other (cursor (u ++ k) q)) ((picks u z).is k)

  tied_at : (u z k : List T) → Tied (cursor (u ++ k) (z ++ k)) → Tied (cursor (u ++ k) ((picks u z).front ++ k))
  tied_at u z k t = subst (λ (q : List T). Tied (cursor (u ++ k) q)) ((picks u z).is k) (tied (cursor (u ++ k) (z ++ k)) t)

  on_local_ok : (b : B) (u z y x k d : List T) → Tied (cursor (u ++ k) (z ++ k)) → 0 < length x → on test go other (cursor (u ++ k) (z ++ k)) ≡ Ok (b, cursor (y ++ k) (x ++ k)) → on test go other (cursor (u ++ d) (z ++ d)) ≡ Ok (b, cursor (y ++ d) (x ++ d))
  on_local_ok b u z y x k d t pos e = elim (truth (first test (u ++ k))) [
    | inl g ↦
        let pe = sym (yes (cursor (u ++ k) (z ++ k)) g) ∙ e in
        let i = one.sound (cursor (u ++ k) (z ++ k)) b (cursor (y ++ k) (x ++ k)) t pe in
        let some_u : 0 < length u = omega (arith, eats b i.read (y ++ k) i.phrase, ap length i.is, length-append u k, length-append i.read (y ++ k), length-append y k) in
        yes (cursor (u ++ d) (z ++ d)) (here true u k d some_u g) ∙ one.local_ok b u z y x k d t pos pe
    | inr g ↦
        let qe = sym (marked_at u z k) ∙ sym (no (cursor (u ++ k) (z ++ k)) g) ∙ e in
        let i = Q.sound (cursor (u ++ k) ((picks u z).front ++ k)) b (cursor (y ++ k) (x ++ k)) (tied_at u z k t) qe in
        let some_u : 0 < length u = omega (arith, i.shorter, (picks u z).short, pos, length-append x k, length-append (picks u z).front k) in
        no (cursor (u ++ d) (z ++ d)) (here false u k d some_u g) ∙ marked_at u z d ∙ Q.local_ok b u (picks u z).front y x k d (tied_at u z k t) pos qe
  ]

  on_local_err : (u z x k d : List T) → Tied (cursor (u ++ k) (z ++ k)) → 0 < length x → on test go other (cursor (u ++ k) (z ++ k)) ≡ Err (x ++ k) → on test go other (cursor (u ++ d) (z ++ d)) ≡ Err (x ++ d)
  on_local_err u z x k d t pos e =
      let f = on_failed (cursor (u ++ k) (z ++ k)) (x ++ k) t e in
      let some_u : 0 < length u = omega (arith, f.inside, pos, length-append x k, length-append u k) in
      elim (truth (first test (u ++ k))) [
        | inl g ↦ yes (cursor (u ++ d) (z ++ d)) (here true u k d some_u g) ∙ one.local_err u z x k d t pos (sym (yes (cursor (u ++ k) (z ++ k)) g) ∙ e)
        | inr g ↦ no (cursor (u ++ d) (z ++ d)) (here false u k d some_u g) ∙ marked_at u z d ∙ Q.local_err u (picks u z).front x k d (tied_at u z k t) pos (sym (marked_at u z k) ∙ sym (no (cursor (u ++ k) (z ++ k)) g) ∙ e)
      ]

  pub on_correct : Correct (on test go other) Lang G N
  on_correct = record { sound = on_sound; complete = on_complete; failed = on_failed; local_ok = on_local_ok; local_err = on_local_err }

  pub on_phrase : Phrase Lang N
  on_phrase = record { whole = one_phrase.whole; tokens = one_phrase.tokens; phrase = λ tail h. inl (one_phrase.phrase tail h) }
