-- A parser that is tried. Where it reads nothing, another reads from the same place, and the language says that the first
-- reads nothing there.
use Rattle.std.proofs.Common.{
  ◌≡◌,
  ◌≤◌,
  ◌<◌,
  List,
  ◌++◌,
  length,
  Ok,
  Err,
  refl,
  sym,
  ap,
  subst,
  ◌∙◌,
  append_assoc,
  arith,
  inl,
  inr,
  ◌⊎◌,
  length-append,
}
use Rattle.std.proofs.lemmas.Bool.{cases_lt}
use Rattle.kt_grammar_parsers.specs.Parsers.{Cursor, Outcome, Parser, cursor, and_then, ◌>>=◌, tried, attempt}
use Rattle.kt_grammar_parsers.specs.Phrases.{Seq, NotReads, FirstOf}
use Rattle.kt_grammar_parsers.proofs.Ends.{Tied, Split, longer_end, tied_move, tied_as, cursor_as, far_split, far_same}
use Rattle.kt_grammar_parsers.proofs.Correct.{
  Begun,
  Reading,
  Refusal,
  Accepted,
  Correct,
  Completion,
  then_ok,
  which,
  not_both,
}
use Rattle.kt_grammar_parsers.proofs.Bind.{tied_on, bind_correct}
use Rattle.kt_grammar_parsers.proofs.Steps.{Any}

module _ {T A B : Type 0} (r : Parser T A) (go : A → Parser T B) (other : Parser T B) (K : A → List T → List T → Type 0) (L : A → B → List T → List T → Type 0) (M : B → List T → List T → Type 0)
    (NK : A → List T → Type 0) (G N : B → List T → Type 0)
    (R : Correct r K Any NK) (P : (a : A) → Correct (go a) (L a) G N) (Q : Correct other M G N)
    (some : (a : A) (u : List T) → ((tail : List T) → NK a tail → K a u tail) → Completion NK a (L a) N) where
  both : Correct (r >>= go) (Seq K L) G N
  both = bind_correct r go K L Any NK G N R P (λ a b u rest l h. tt) some

  abbrev Lang : B → List T → List T → Type 0
  Lang = FirstOf K L M

  as_bind : (c : Cursor T) (x : A × Cursor T) → r c ≡ Ok x → attempt r go other c ≡ (r >>= go) c
  unfolding attempt
  as_bind c x e = ap (λ (o : Outcome T A). tried o go other c.rest) e ∙ sym (ap (λ (o : Outcome T A). and_then o go) e)

  as_other : (c : Cursor T) (k : List T) → r c ≡ Err k → attempt r go other c ≡ other (cursor c.rest k)
  unfolding attempt
  as_other c k e = ap (λ (o : Outcome T A). tried o go other c.rest) e

  misses : (c : Cursor T) (k : List T) → Tied c → r c ≡ Err k → NotReads K c.rest
  misses c k t e a u rest is l =
      let x = R.complete a u rest c.far (subst (λ (z : List T). Tied (cursor z c.far)) is t) l tt in
      not_both (r c) (a, cursor rest x.far') k (ap (λ (z : List T). r (cursor z c.far)) is ∙ x.is) e

  fails : (c : Cursor T) → Tied c → NotReads K c.rest → (k : List T) × (r c ≡ Err k)
  fails c t h = elim (which (r c)) [ inl o ↦ absurd (let x = R.sound c o.0.0 o.0.1 t o.1 in h o.0.0 x.read o.0.1.rest x.is x.phrase) | inr o ↦ o ]

  tied_k : (c : Cursor T) (k : List T) → Tied c → Refusal K NK c k → Tied (cursor c.rest k)
  tied_k c k t f = elim f.far [
    | inl e ↦ record { whole = t.whole; before = t.before; before' = t.before'; is = t.is; is' = t.is' ∙ ap (λ (z : List T). t.before' ++ z) (sym e) }
    | inr x ↦ record { whole = t.whole; before = t.before; before' = t.before ++ x.read; is = t.is; is' = t.is ∙ ap (λ (z : List T). t.before ++ z) x.is ∙ sym (append_assoc t.before x.read k) }
  ]

  begun_both : (ts k : List T) → Begun (Seq K L) N ts k → Begun Lang N ts k
  begun_both ts k x = record { read = x.read; more = x.more; whole = x.whole; is = x.is; phrase = λ tail h. inl (x.phrase tail h) }

  k_far : (c : Cursor T) (k : List T) → Refusal K NK c k → (k ≡ c.far) ⊎ Begun Lang N c.rest k
  k_far c k f = elim f.far [
    | inl e ↦ inl e
    | inr x ↦ let y = some x.whole (x.read ++ x.more) x.phrase in
        inr (record {
          read = x.read;
          more = x.more ++ y.tokens;
          whole = y.whole;
          is = x.is;
          phrase = λ tail h. let z = y.phrase tail h in inl (record { value = x.whole; front = x.read ++ x.more; back = y.tokens; is = sym (append_assoc x.read x.more y.tokens); phrase = x.phrase (y.tokens ++ tail) z.1; phrase' = z.0 });
        })
  ]

  still : (k d read z x : List T) → Tied (cursor (read ++ k) (z ++ k)) → 0 < length x → r (cursor (read ++ k) (z ++ k)) ≡ Err (x ++ k) → NotReads K (read ++ d)
  still k d read z x t pos e = misses (cursor (read ++ d) (z ++ d)) (x ++ d) (tied_move read z k d t) (R.local_err read z x k d t pos e)

  -- what the other begins behind all that was tried is begun where the first reads nothing still
  other_begun : (c : Cursor T) (k d : List T) → Tied c → r c ≡ Err k → Refusal K NK c k → length d < length k → Begun M N c.rest d → Begun Lang N c.rest d
  other_begun c k d t e f lt y =
      let z : Split c.far d = far_split c y.read d t y.is (omega (arith, lt, f.shorter)) in
      let x : Split k d = far_split (cursor c.rest k) y.read d (tied_k c k t f) y.is (omega (arith, lt)) in
      let td : Tied (cursor (y.read ++ d) (z.front ++ d)) = tied_as c y.read z.front d t y.is z.is in
      let here : r (cursor (y.read ++ d) (z.front ++ d)) ≡ Err (x.front ++ d) = ap r (sym (cursor_as c y.read z.front d y.is z.is)) ∙ e ∙ ap Err x.is in
      let pos : 0 < length x.front = omega (arith, lt, ap length x.is, length-append x.front d) in
      record {
        read = y.read;
        more = y.more;
        whole = y.whole;
        is = y.is;
        phrase = λ tail h. inr (y.phrase tail h, subst (λ (q : List T). NotReads K q) (sym (append_assoc y.read y.more tail)) (still d (y.more ++ tail) y.read z.front x.front td pos here));
      }

  other_far : (c : Cursor T) (k d : List T) → Tied c → r c ≡ Err k → Refusal K NK c k → length d ≤ length k → (d ≡ k) ⊎ Begun M N c.rest d → (d ≡ c.far) ⊎ Begun Lang N c.rest d
  other_far c k d t e f le (inl same) = subst (λ (z : List T). (z ≡ c.far) ⊎ Begun Lang N c.rest z) (sym same) (k_far c k f)
  other_far c k d t e f le (inr y) =
      elim (cases_lt (length d) (length k)) [
        | inl lt ↦ inr (other_begun c k d t e f lt y)
        | inr ge ↦
            let same : d ≡ k = far_same (cursor c.rest k) y.read d (tied_k c k t f) y.is (omega (arith, le, ge)) in
            subst (λ (z : List T). (z ≡ c.far) ⊎ Begun Lang N c.rest z) (sym same) (k_far c k f)
      ]

  attempt_sound : (c : Cursor T) (b : B) (c' : Cursor T) → Tied c → attempt r go other c ≡ Ok (b, c') → Reading Lang N c b c'
  attempt_sound c b c' t e =
      elim (which (r c)) [
        | inl o ↦
            let x = both.sound c b c' t (sym (as_bind c o.0 o.1) ∙ e) in
            record { read = x.read; is = x.is; phrase = inl x.phrase; far = elim x.far [ inl y ↦ inl y | inr y ↦ inr (begun_both c.rest c'.far y) ]; shorter = x.shorter }
        | inr o ↦
            let f = R.failed c o.0 t o.1 in
            let x = Q.sound (cursor c.rest o.0) b c' (tied_k c o.0 t f) (sym (as_other c o.0 o.1) ∙ e) in
            record { read = x.read; is = x.is; phrase = inr (x.phrase, subst (λ (z : List T). NotReads K z) x.is (misses c o.0 t o.1)); far = other_far c o.0 c'.far t o.1 f x.shorter x.far; shorter = omega (arith, x.shorter, f.shorter) }
      ]

  attempt_failed : (c : Cursor T) (d : List T) → Tied c → attempt r go other c ≡ Err d → Refusal Lang N c d
  attempt_failed c d t e =
      elim (which (r c)) [
        | inl o ↦
            let x = both.failed c d t (sym (as_bind c o.0 o.1) ∙ e) in
            record { far = elim x.far [ inl y ↦ inl y | inr y ↦ inr (begun_both c.rest d y) ]; shorter = x.shorter; inside = x.inside }
        | inr o ↦
            let f = R.failed c o.0 t o.1 in
            let x = Q.failed (cursor c.rest o.0) d (tied_k c o.0 t f) (sym (as_other c o.0 o.1) ∙ e) in
            record { far = other_far c o.0 d t o.1 f x.shorter x.far; shorter = omega (arith, x.shorter, f.shorter); inside = x.inside }
      ]

  attempt_complete : (b : B) (u rest far : List T) → Tied (cursor (u ++ rest) far) → Lang b u rest → G b rest → Accepted (attempt r go other) b u rest far
  attempt_complete b u rest far t (inl l) g =
      let x = both.complete b u rest far t l g in
      let o = then_ok (r (cursor (u ++ rest) far)) go (b, cursor rest x.far') x.is in
      record { far' = x.far'; is = as_bind (cursor (u ++ rest) far) o.0 o.1 ∙ x.is }
  attempt_complete b u rest far t (inr m) g =
      let o = fails (cursor (u ++ rest) far) t m.1 in
      let x = Q.complete b u rest o.0 (tied_k (cursor (u ++ rest) far) o.0 t (R.failed (cursor (u ++ rest) far) o.0 t o.1)) m.0 g in
      record { far' = x.far'; is = as_other (cursor (u ++ rest) far) o.0 o.1 ∙ x.is }

  -- the first failed in front of k, and fails so in front of d
  module _ (u z k d : List T) (t : Tied (cursor (u ++ k) (z ++ k))) (l : List T) (e : r (cursor (u ++ k) (z ++ k)) ≡ Err l) (long : length k < length l) where
    f : Refusal K NK (cursor (u ++ k) (z ++ k)) l
    f = R.failed (cursor (u ++ k) (z ++ k)) l t e

    t' : Tied (cursor (u ++ k) l)
    t' = tied_k (cursor (u ++ k) (z ++ k)) l t f

    x : Split l k
    x = far_split (cursor (u ++ k) l) u k t' refl (omega (arith, long))

    fails_d : r (cursor (u ++ d) (z ++ d)) ≡ Err (x.front ++ d)
    fails_d = R.local_err u z x.front k d t (omega (arith, long, ap length x.is, length-append x.front k)) (e ∙ ap Err x.is)

    other_here : other (cursor (u ++ k) (x.front ++ k)) ≡ attempt r go other (cursor (u ++ k) (z ++ k))
    other_here = ap (λ (y : List T). other (cursor (u ++ k) y)) (sym x.is) ∙ sym (as_other (cursor (u ++ k) (z ++ k)) l e)

    t-here : Tied (cursor (u ++ k) (x.front ++ k))
    t-here = subst (λ (y : List T). Tied (cursor (u ++ k) y)) x.is t'

  attempt_local_ok : (b : B) (u z y x k d : List T) → Tied (cursor (u ++ k) (z ++ k)) → 0 < length x → attempt r go other (cursor (u ++ k) (z ++ k)) ≡ Ok (b, cursor (y ++ k) (x ++ k)) → attempt r go other (cursor (u ++ d) (z ++ d)) ≡ Ok (b, cursor (y ++ d) (x ++ d))
  attempt_local_ok b u z y x k d t pos e =
      let c = cursor (u ++ k) (z ++ k) in
      elim (which (r c)) [
        | inl o ↦
            let e' = both.local_ok b u z y x k d t pos (sym (as_bind c o.0 o.1) ∙ e) in
            let o' = then_ok (r (cursor (u ++ d) (z ++ d))) go (b, cursor (y ++ d) (x ++ d)) e' in
            as_bind (cursor (u ++ d) (z ++ d)) o'.0 o'.1 ∙ e'
        | inr o ↦
            let g = R.failed c o.0 t o.1 in
            let i = Q.sound (cursor (u ++ k) o.0) b (cursor (y ++ k) (x ++ k)) (tied_k c o.0 t g) (sym (as_other c o.0 o.1) ∙ e) in
            let long : length k < length o.0 = omega (arith, i.shorter, length-append x k, pos) in
            as_other (cursor (u ++ d) (z ++ d)) _ (fails_d u z k d t o.0 o.1 long) ∙ Q.local_ok b u _ y x k d (t-here u z k d t o.0 o.1 long) pos (other_here u z k d t o.0 o.1 long ∙ e)
      ]

  attempt_local_err : (u z x k d : List T) → Tied (cursor (u ++ k) (z ++ k)) → 0 < length x → attempt r go other (cursor (u ++ k) (z ++ k)) ≡ Err (x ++ k) → attempt r go other (cursor (u ++ d) (z ++ d)) ≡ Err (x ++ d)
  attempt_local_err u z x k d t pos e =
      let c = cursor (u ++ k) (z ++ k) in
      elim (which (r c)) [
        | inl o ↦
            let i = R.sound c o.0.0 o.0.1 t o.1 in
            let t1 = tied_on K NK c o.0.0 o.0.1 t i in
            let p1 : go o.0.0 o.0.1 ≡ Err (x ++ k) = sym (ap (λ (q : Outcome T A). and_then q go) o.1) ∙ sym (as_bind c o.0 o.1) ∙ e in
            let j = (P o.0.0).failed o.0.1 (x ++ k) t1 p1 in
            let sr : Split o.0.1.rest k = longer_end u k i.read o.0.1.rest i.is (omega (arith, j.inside, length-append x k)) in
            let sf : Split o.0.1.far k = far_split o.0.1 sr.front k t1 sr.is (omega (arith, j.shorter, length-append x k)) in
            let r' = R.local_ok o.0.0 u z sr.front sf.front k d t (omega (arith, j.shorter, pos, ap length sf.is, length-append sf.front k, length-append x k)) (o.1 ∙ ap (λ (q : Cursor T). Ok (o.0.0, q)) (cursor_as o.0.1 sr.front sf.front k sr.is sf.is)) in
            as_bind (cursor (u ++ d) (z ++ d)) (o.0.0, cursor (sr.front ++ d) (sf.front ++ d)) r' ∙ both.local_err u z x k d t pos (sym (as_bind c o.0 o.1) ∙ e)
        | inr o ↦
            let g = R.failed c o.0 t o.1 in
            let i = Q.failed (cursor (u ++ k) o.0) (x ++ k) (tied_k c o.0 t g) (sym (as_other c o.0 o.1) ∙ e) in
            let long : length k < length o.0 = omega (arith, i.shorter, length-append x k, pos) in
            as_other (cursor (u ++ d) (z ++ d)) _ (fails_d u z k d t o.0 o.1 long) ∙ Q.local_err u _ x k d (t-here u z k d t o.0 o.1 long) pos (other_here u z k d t o.0 o.1 long ∙ e)
      ]

  pub attempt_correct : Correct (attempt r go other) Lang G N
  attempt_correct = record { sound = attempt_sound; complete = attempt_complete; failed = attempt_failed; local_ok = attempt_local_ok; local_err = attempt_local_err }
