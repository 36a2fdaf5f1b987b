-- Turns until one ends it.
use Rattle.std.proofs.Common.{
  ◌≡◌,
  ℕ,
  zero,
  suc,
  ◌≤◌,
  ◌<◌,
  List,
  [],
  ◌++◌,
  length,
  Ok,
  Err,
  refl,
  sym,
  ap,
  subst,
  ◌∙◌,
  arith,
  inl,
  inr,
  ◌⊎◌,
  length-append,
}
use Rattle.std.proofs.lemmas.List.{append-nil}
use Rattle.kt_grammar_parsers.specs.Parsers.{Cursor, Outcome, Parser, and_then, ◌>>=◌, pure, again, loop, repeat}
use Rattle.kt_grammar_parsers.specs.Phrases.{IsNothing, Seq, Loop, ends, turns}
use Rattle.kt_grammar_parsers.proofs.Ends.{Tied, tied_move}
use Rattle.kt_grammar_parsers.proofs.Correct.{Below, Correct, Completion, below, correct, same_parser, same_language}
use Rattle.kt_grammar_parsers.proofs.Bind.{tied_on, bind_below}
use Rattle.kt_grammar_parsers.proofs.Steps.{pure_correct}

-- J is what may follow a turn, and E what may follow one that was completed.
module _ {T S B : Type 0} (turn : S → Parser T (S ⊎ B)) (Turn : S → S ⊎ B → List T → List T → Type 0) (J E : S ⊎ B → List T → Type 0) (G N : B → List T → Type 0)
    (C : (x : S) → Correct (turn x) (Turn x) J E)
    (eats : (x y : S) (u rest : List T) → Turn x (inl y) u rest → 0 < length u)
    (stops : (y : S) (b : B) (u rest : List T) → Loop Turn y b u rest → G b rest → J (inl y) (u ++ rest))
    (ended : (b : B) (rest : List T) → G b rest → J (inr b) rest)
    (ended' : (b : B) (rest : List T) → N b rest → E (inr b) rest)
    (some : (x y : S) (u : List T) → ((tail : List T) → E (inl y) tail → Turn x (inl y) u tail) → Completion E (inl y) (Loop Turn y) N) where
  abbrev Then : S ⊎ B → B → List T → List T → Type 0
  Then (inl y) b u rest = Loop Turn y b u rest
  Then (inr a) b u rest = IsNothing a b u rest

  abbrev bound : ℕ → S ⊎ B → ℕ
  bound n (inl y) = n
  bound n (inr a) = suc n

  seq_loop : (x : S) (b : B) (u rest : List T) → Seq (Turn x) Then b u rest → Loop Turn x b u rest
  seq_loop x b u rest s = go s.value s.front s.back s.is s.phrase s.phrase'
    where
      go : (f : S ⊎ B) (front back : List T) → u ≡ front ++ back → Turn x f front (back ++ rest) → Then f b back rest → Loop Turn x b u rest
      go (inl y) front back is l m = turns l m is
      go (inr a) front back is l m =
          let e : u ≡ front = is ∙ ap (λ (z : List T). front ++ z) m.none ∙ append-nil front in
          let here : Turn x (inr a) front rest = subst (λ (z : List T). Turn x (inr a) front (z ++ rest)) m.none l in
          ends (subst (λ (z : B). Turn x (inr z) u rest) (sym m.value) (subst (λ (z : List T). Turn x (inr a) z rest) (sym e) here))

  loop_seq : (x : S) (b : B) (u rest : List T) → Loop Turn x b u rest → Seq (Turn x) Then b u rest
  loop_seq x b u rest (ends l) = record { value = inr b; front = u; back = []; is = sym (append-nil u); phrase = l; phrase' = record { value = refl; none = refl } }
  loop_seq x b u rest (turns {y = y} {v = v} {w = w} l m is) = record { value = inl y; front = v; back = w; is = is; phrase = l; phrase' = m }

  fits : (n : ℕ) (x : S) (r : S ⊎ B) (u rest : List T) → Turn x r u rest → length (u ++ rest) < suc n → length rest < bound n r
  fits n x (inl y) u rest l h = omega (arith, eats x y u rest l, h, length-append u rest)
  fits n x (inr a) u rest l h = omega (arith, h, length-append u rest)

  then_stops : (r : S ⊎ B) (b : B) (u rest : List T) → Then r b u rest → G b rest → J r (u ++ rest)
  then_stops (inl y) b u rest l g = stops y b u rest l g
  then_stops (inr a) b u rest l g = subst (λ (z : List T). J (inr a) (z ++ rest)) (sym l.none) (ended a rest (subst (λ (z : B). G z rest) l.value g))

  then_some : (x : S) (r : S ⊎ B) (u : List T) → ((tail : List T) → E r tail → Turn x r u tail) → Completion E r (Then r) N
  then_some x (inl y) u l = some x y u l
  then_some x (inr a) u l = record { whole = a; tokens = []; phrase = λ tail h. (record { value = refl; none = refl }, ended' a tail h) }

  -- ---- how many turns there may be does not matter, where they are enough

  abbrev Same : ℕ → ℕ → Type 0
  Same n m = (x : S) (c : Cursor T) → Tied c → length c.rest < n → length c.rest < m → loop turn n x c ≡ loop turn m x c

  fuel_step : (n m : ℕ) → Same n m → (x : S) (c : Cursor T) → Tied c → length c.rest < suc n → length c.rest < suc m → (o : Outcome T (S ⊎ B)) → turn x c ≡ o → and_then (turn x c) (again (loop turn n)) ≡ and_then (turn x c) (again (loop turn m))
  fuel_step n m more x c t h i (Err k) e = rw e refl
  fuel_step n m more x c t h i (Ok r) e = rw e (go r.0 r.1 e)
    where
      go : (f : S ⊎ B) (c' : Cursor T) → turn x c ≡ Ok (f, c') → again (loop turn n) f c' ≡ again (loop turn m) f c'
      go (inr a) c' e' = refl
      go (inl y) c' e' =
          let r' = (C x).sound c (inl y) c' t e' in
          let short : length c'.rest < length c.rest = omega (arith, eats x y r'.read c'.rest r'.phrase, ap length r'.is, length-append r'.read c'.rest) in
          more y c' (tied_on (Turn x) E c (inl y) c' t r') (omega (arith, short, h)) (omega (arith, short, i))

  fuel : (n m : ℕ) → Same n m
  unfolding loop
  fuel zero m x c t h i = absurd (omega (arith, h))
  fuel (suc n) zero x c t h i = absurd (omega (arith, i))
  fuel (suc n) (suc m) x c t h i = fuel_step n m (fuel n m) x c t h i (turn x c) refl

  more_step : (x : S) (c : Cursor T) (n : ℕ) → Tied c → length c.rest ≤ n → (o : Outcome T (S ⊎ B)) → turn x c ≡ o → and_then (turn x c) (again (loop turn n)) ≡ and_then (turn x c) (again (repeat turn))
  more_step x c n t h (Err k) e = rw e refl
  more_step x c n t h (Ok r) e = rw e (go r.0 r.1 e)
    where
      go : (f : S ⊎ B) (c' : Cursor T) → turn x c ≡ Ok (f, c') → again (loop turn n) f c' ≡ again (repeat turn) f c'
      go (inr a) c' e' = refl
      go (inl y) c' e' =
          let r' = (C x).sound c (inl y) c' t e' in
          let short : length c'.rest < length c.rest = omega (arith, eats x y r'.read c'.rest r'.phrase, ap length r'.is, length-append r'.read c'.rest) in
          fuel n (suc (length c'.rest)) y c' (tied_on (Turn x) E c (inl y) c' t r') (omega (arith, short, h)) (omega arith)

  -- a turn, and then the rest of them
  pub one_turn : (x : S) (c : Cursor T) → Tied c → repeat turn x c ≡ (turn x >>= again (repeat turn)) c
  unfolding loop
  one_turn x c t = more_step x c (length c.rest) t (omega arith) (turn x c) refl

  next_below : (n : ℕ) → ((y : S) → Below n (repeat turn y) (Loop Turn y) G N) → (r : S ⊎ B) → Below (bound n r) (again (repeat turn) r) (Then r) G N
  next_below n more (inl y) = more y
  next_below n more (inr a) = below (suc n) (pure a) (IsNothing a) G N (pure_correct a G N)

  pub repeat_below : (n : ℕ) (x : S) → Below n (repeat turn x) (Loop Turn x) G N
  repeat_below zero x = record {
    sound = λ c a c' h t e. absurd (omega (arith, h));
    complete = λ a u rest far h t l g. absurd (omega (arith, h));
    failed = λ c k h t e. absurd (omega (arith, h));
    local_ok = λ a u z y x' k d h t pos e. absurd (omega (arith, h));
    local_err = λ u z x' k d h t pos e. absurd (omega (arith, h));
  }
  repeat_below (suc n) x =
      same_parser (suc n) (turn x >>= again (repeat turn)) (repeat turn x) (Loop Turn x) G N (one_turn x) tied_move
      (same_language (suc n) (turn x >>= again (repeat turn)) (Seq (Turn x) Then) (Loop Turn x) G G N N (seq_loop x) (λ a u rest l g. loop_seq x a u rest l) (λ a rest g. g) (λ a rest h. h)
      (bind_below (suc n) (bound n) (turn x) (again (repeat turn)) (Turn x) Then J E G N (C x) (next_below n (repeat_below n)) (fits n x) then_stops (then_some x)))

  pub repeat_correct : (x : S) → Correct (repeat turn x) (Loop Turn x) G N
  repeat_correct x = correct (repeat turn x) (Loop Turn x) G N (λ n. repeat_below n x)
