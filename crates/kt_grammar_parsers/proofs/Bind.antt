-- One parser after the other.
use Rattle.std.proofs.Common.{
  ◌≡◌,
  ℕ,
  ◌≤◌,
  ◌<◌,
  List,
  ◌++◌,
  length,
  Ok,
  Err,
  refl,
  sym,
  ap,
  subst,
  ◌∙◌,
  append_assoc,
  arith,
  inl,
  inr,
  ◌⊎◌,
  length-append,
}
use Rattle.std.proofs.lemmas.List.{append_cancel_right}
use Rattle.std.proofs.lemmas.Bool.{cases_lt}
use Rattle.kt_grammar_parsers.specs.Parsers.{Cursor, Outcome, Parser, cursor, and_then, ◌>>=◌}
use Rattle.kt_grammar_parsers.specs.Phrases.{Seq}
use Rattle.kt_grammar_parsers.proofs.Ends.{Tied, Split, longer_end, tied_move, tied_as, cursor_as, far_split, far_same}
use Rattle.kt_grammar_parsers.proofs.Correct.{
  Begun,
  Reading,
  Refusal,
  Accepted,
  Below,
  Correct,
  Completion,
  below,
  correct,
  then_ok,
  then_err,
}

pub tied_on : {T A : Type 0} (L : A → List T → List T → Type 0) (N : A → List T → Type 0) (c : Cursor T) (a : A) (c' : Cursor T) → Tied c → Reading L N c a c' → Tied c'
tied_on {T} L N c a c' t x = elim x.far [
  | inl same ↦ record { whole = t.whole; before = t.before ++ x.read; before' = t.before'; is = t.is ∙ ap (λ (z : List T). t.before ++ z) x.is ∙ sym (append_assoc t.before x.read c'.rest); is' = t.is' ∙ ap (λ (z : List T). t.before' ++ z) (sym same) }
  | inr r ↦ record { whole = t.whole; before = t.before ++ x.read; before' = t.before ++ r.read; is = t.is ∙ ap (λ (z : List T). t.before ++ z) x.is ∙ sym (append_assoc t.before x.read c'.rest); is' = t.is ∙ ap (λ (z : List T). t.before ++ z) r.is ∙ sym (append_assoc t.before r.read c'.far) }
]

-- The first is correct on any number of tokens, the second on fewer than `bound` says.
module _ {T A B : Type 0} (n : ℕ) (bound : A → ℕ) (p : Parser T A) (go : A → Parser T B) (L : A → List T → List T → Type 0) (M : A → B → List T → List T → Type 0)
    (G N : A → List T → Type 0) (H N' : B → List T → Type 0)
    (P : Correct p L G N) (F : (a : A) → Below (bound a) (go a) (M a) H N')
    (fits : (a : A) (u rest : List T) → L a u rest → length (u ++ rest) < n → length rest < bound a)
    (stops : (a : A) (b : B) (u rest : List T) → M a b u rest → H b rest → G a (u ++ rest))
    (some : (a : A) (u : List T) → ((tail : List T) → N a tail → L a u tail) → Completion N a (M a) N') where
  begun_first : (ts k : List T) → Begun L N ts k → Begun (Seq L M) N' ts k
  begun_first ts k x =
      let y = some x.whole (x.read ++ x.more) x.phrase in
      record {
        read = x.read;
        more = x.more ++ y.tokens;
        whole = y.whole;
        is = x.is;
        phrase = λ tail h. let q = y.phrase tail h in
            record { value = x.whole; front = x.read ++ x.more; back = y.tokens; is = sym (append_assoc x.read x.more y.tokens); phrase = x.phrase (y.tokens ++ tail) q.1; phrase' = q.0 };
      }

  small : (c : Cursor T) (a : A) (c' : Cursor T) → length c.rest < n → Reading L N c a c' → length c'.rest < bound a
  small c a c' h x = fits a x.read c'.rest x.phrase (subst (λ (z : List T). length z < n) x.is h)

  -- The first reads the same where something else follows in place of k, since k is behind all that it examined.
  module _ (c : Cursor T) (a : A) (c' : Cursor T) (k : List T) (t : Tied c) (x : Reading L N c a c') (e : p c ≡ Ok (a, c')) (y : Begun (M a) N' c'.rest k) (behind : length k < length c'.far) where
    rest-is : c.rest ≡ (x.read ++ y.read) ++ k
    rest-is = x.is ∙ ap (λ (z : List T). x.read ++ z) y.is ∙ sym (append_assoc x.read y.read k)

    before : Split c.far k
    before = far_split c (x.read ++ y.read) k t rest-is (omega (arith, behind, x.shorter))

    after : Split c'.far k
    after = far_split c' y.read k (tied_on L N c a c' t x) y.is (omega (arith, behind))

    pos : 0 < length after.front
    pos = omega (arith, behind, ap length after.is, length-append after.front k)

    here : p (cursor ((x.read ++ y.read) ++ k) (before.front ++ k)) ≡ Ok (a, cursor (y.read ++ k) (after.front ++ k))
    here = ap p (sym (cursor_as c (x.read ++ y.read) before.front k rest-is before.is)) ∙ e ∙ ap (λ (q : Cursor T). Ok (a, q)) (cursor_as c' y.read after.front k y.is after.is)

    t-here : Tied (cursor ((x.read ++ y.read) ++ k) (before.front ++ k))
    t-here = tied_as c (x.read ++ y.read) before.front k t rest-is before.is

    moved : (d : List T) → L a x.read (y.read ++ d)
    moved d =
        let m = P.local_ok a (x.read ++ y.read) before.front y.read after.front k d t-here pos here in
        let i = P.sound (cursor ((x.read ++ y.read) ++ d) (before.front ++ d)) a (cursor (y.read ++ d) (after.front ++ d)) (tied_move (x.read ++ y.read) before.front k d t-here) m in
        let same : i.read ≡ x.read = append_cancel_right i.read x.read (y.read ++ d) (sym i.is ∙ append_assoc x.read y.read d) in
        subst (λ (q : List T). L a q (y.read ++ d)) same i.phrase

  begun_second : (c : Cursor T) (a : A) (c' : Cursor T) (k : List T) → Tied c → Reading L N c a c' → p c ≡ Ok (a, c') → Begun (M a) N' c'.rest k → length k < length c'.far → Begun (Seq L M) N' c.rest k
  begun_second c a c' k t x e y behind =
      record {
        read = x.read ++ y.read;
        more = y.more;
        whole = y.whole;
        is = rest-is c a c' k t x e y behind;
        phrase = λ tail h. record {
          value = a;
          front = x.read;
          back = y.read ++ y.more;
          is = append_assoc x.read y.read y.more;
          phrase = subst (λ (q : List T). L a x.read q) (sym (append_assoc y.read y.more tail)) (moved c a c' k t x e y behind (y.more ++ tail));
          phrase' = y.phrase tail h;
        };
      }

  far_old : (c : Cursor T) (a : A) (c' : Cursor T) (k : List T) → Reading L N c a c' → k ≡ c'.far → (k ≡ c.far) ⊎ Begun (Seq L M) N' c.rest k
  far_old c a c' k x same = elim x.far [ inl old ↦ inl (same ∙ old) | inr r ↦ inr (begun_first c.rest k (subst (λ (z : List T). Begun L N c.rest z) (sym same) r)) ]

  far_of : (c : Cursor T) (a : A) (c' : Cursor T) (k : List T) → Tied c → Reading L N c a c' → p c ≡ Ok (a, c') → length k ≤ length c'.far → (k ≡ c'.far) ⊎ Begun (M a) N' c'.rest k → (k ≡ c.far) ⊎ Begun (Seq L M) N' c.rest k
  far_of c a c' k t x e h (inl same) = far_old c a c' k x same
  far_of c a c' k t x e h (inr r) =
      elim (cases_lt (length k) (length c'.far)) [
        | inl lt ↦ inr (begun_second c a c' k t x e r lt)
        | inr le ↦ far_old c a c' k x (far_same c' r.read k (tied_on L N c a c' t x) r.is (omega (arith, h, le)))
      ]

  far_first : (c : Cursor T) (k : List T) → (k ≡ c.far) ⊎ Begun L N c.rest k → (k ≡ c.far) ⊎ Begun (Seq L M) N' c.rest k
  far_first c k (inl e) = inl e
  far_first c k (inr r) = inr (begun_first c.rest k r)

  bind_sound : (c : Cursor T) (b : B) (c' : Cursor T) → length c.rest < n → Tied c → (p >>= go) c ≡ Ok (b, c') → Reading (Seq L M) N' c b c'
  bind_sound c b c' h t e =
      let o = then_ok (p c) go (b, c') e in
      let x = P.sound c o.0.0 o.0.1 t o.1 in
      let y = (F o.0.0).sound o.0.1 b c' (small c o.0.0 o.0.1 h x) (tied_on L N c o.0.0 o.0.1 t x) o.2 in
      record {
        read = x.read ++ y.read;
        is = x.is ∙ ap (λ (z : List T). x.read ++ z) y.is ∙ sym (append_assoc x.read y.read c'.rest);
        phrase = record { value = o.0.0; front = x.read; back = y.read; is = refl; phrase = subst (λ (z : List T). L o.0.0 x.read z) y.is x.phrase; phrase' = y.phrase };
        far = far_of c o.0.0 o.0.1 c'.far t x o.1 y.shorter y.far;
        shorter = omega (arith, x.shorter, y.shorter);
      }

  bind_complete : (b : B) (u rest far : List T) → length (u ++ rest) < n → Tied (cursor (u ++ rest) far) → Seq L M b u rest → H b rest → Accepted (p >>= go) b u rest far
  bind_complete b u rest far h t s g =
      let regrouped : u ++ rest ≡ s.front ++ (s.back ++ rest) = ap (λ (z : List T). z ++ rest) s.is ∙ append_assoc s.front s.back rest in
      let t' : Tied (cursor (s.front ++ (s.back ++ rest)) far) = subst (λ (z : List T). Tied (cursor z far)) regrouped t in
      let x = P.complete s.value s.front (s.back ++ rest) far t' s.phrase (stops s.value b s.back rest s.phrase' g) in
      let i = P.sound (cursor (s.front ++ (s.back ++ rest)) far) s.value (cursor (s.back ++ rest) x.far') t' x.is in
      let less : length (s.back ++ rest) < bound s.value = fits s.value s.front (s.back ++ rest) s.phrase (subst (λ (z : List T). length z < n) regrouped h) in
      let y = (F s.value).complete b s.back rest x.far' less (tied_on L N (cursor (s.front ++ (s.back ++ rest)) far) s.value (cursor (s.back ++ rest) x.far') t' i) s.phrase' g in
      let one : p (cursor (u ++ rest) far) ≡ Ok (s.value, cursor (s.back ++ rest) x.far') = ap (λ (z : List T). p (cursor z far)) regrouped ∙ x.is in
      record { far' = y.far'; is = ap (λ (r : Outcome T A). and_then r go) one ∙ y.is }

  bind_failed : (c : Cursor T) (k : List T) → length c.rest < n → Tied c → (p >>= go) c ≡ Err k → Refusal (Seq L M) N' c k
  bind_failed c k h t e =
      elim (then_err (p c) go k e) [
        | inl pe ↦ let x = P.failed c k t pe in record { far = far_first c k x.far; shorter = x.shorter; inside = x.inside }
        | inr o ↦
            let x = P.sound c o.0.0 o.0.1 t o.1 in
            let y = (F o.0.0).failed o.0.1 k (small c o.0.0 o.0.1 h x) (tied_on L N c o.0.0 o.0.1 t x) o.2 in
            record {
              far = far_of c o.0.0 o.0.1 k t x o.1 y.shorter y.far;
              shorter = omega (arith, x.shorter, y.shorter);
              inside = omega (arith, y.inside, ap length x.is, length-append x.read o.0.1.rest);
            }
      ]

  -- where the first stopped and what it examined, in front of k
  module _ (u z : List T) (k d : List T) (t : Tied (cursor (u ++ k) (z ++ k))) (a : A) (c' : Cursor T) (i : Reading L N (cursor (u ++ k) (z ++ k)) a c')
      (e : p (cursor (u ++ k) (z ++ k)) ≡ Ok (a, c')) (rest_long : length k ≤ length c'.rest) (far_long : length k < length c'.far) where
    rest_front : Split c'.rest k
    rest_front = longer_end u k i.read c'.rest i.is rest_long

    t1 : Tied c'
    t1 = tied_on L N (cursor (u ++ k) (z ++ k)) a c' t i

    far_front : Split c'.far k
    far_front = far_split c' rest_front.front k t1 rest_front.is (omega (arith, far_long))

    parts : c' ≡ cursor (rest_front.front ++ k) (far_front.front ++ k)
    parts = cursor_as c' rest_front.front far_front.front k rest_front.is far_front.is

    same : p (cursor (u ++ d) (z ++ d)) ≡ Ok (a, cursor (rest_front.front ++ d) (far_front.front ++ d))
    same = P.local_ok a u z rest_front.front far_front.front k d t (omega (arith, far_long, ap length far_front.is, length-append far_front.front k)) (e ∙ ap (λ (q : Cursor T). Ok (a, q)) parts)

    t2 : Tied (cursor (rest_front.front ++ k) (far_front.front ++ k))
    t2 = tied_as c' rest_front.front far_front.front k t1 rest_front.is far_front.is

    less : length (u ++ k) < n → length (rest_front.front ++ k) < bound a
    less h = subst (λ (q : List T). length q < bound a) rest_front.is (small (cursor (u ++ k) (z ++ k)) a c' h i)

  bind_local_ok : (b : B) (u z y x k d : List T) → length (u ++ k) < n → Tied (cursor (u ++ k) (z ++ k)) → 0 < length x → (p >>= go) (cursor (u ++ k) (z ++ k)) ≡ Ok (b, cursor (y ++ k) (x ++ k)) → (p >>= go) (cursor (u ++ d) (z ++ d)) ≡ Ok (b, cursor (y ++ d) (x ++ d))
  bind_local_ok b u z y x k d h t pos e =
      let o = then_ok (p (cursor (u ++ k) (z ++ k))) go (b, cursor (y ++ k) (x ++ k)) e in
      let i = P.sound (cursor (u ++ k) (z ++ k)) o.0.0 o.0.1 t o.1 in
      let j = (F o.0.0).sound o.0.1 b (cursor (y ++ k) (x ++ k)) (small (cursor (u ++ k) (z ++ k)) o.0.0 o.0.1 h i) (tied_on L N (cursor (u ++ k) (z ++ k)) o.0.0 o.0.1 t i) o.2 in
      let rl : length k ≤ length o.0.1.rest = omega (arith, ap length j.is, length-append j.read (y ++ k), length-append y k) in
      let fl : length k < length o.0.1.far = omega (arith, j.shorter, length-append x k, pos) in
      let f1 = ap (go o.0.0) (sym (parts u z k d t o.0.0 o.0.1 i o.1 rl fl)) ∙ o.2 in
      ap (λ (r : Outcome T A). and_then r go) (same u z k d t o.0.0 o.0.1 i o.1 rl fl)
      ∙ (F o.0.0).local_ok b (rest_front u z k d t o.0.0 o.0.1 i o.1 rl fl).front (far_front u z k d t o.0.0 o.0.1 i o.1 rl fl).front y x k d (less u z k d t o.0.0 o.0.1 i o.1 rl fl h) (t2 u z k d t o.0.0 o.0.1 i o.1 rl fl) pos f1

  bind_local_err : (u z x k d : List T) → length (u ++ k) < n → Tied (cursor (u ++ k) (z ++ k)) → 0 < length x → (p >>= go) (cursor (u ++ k) (z ++ k)) ≡ Err (x ++ k) → (p >>= go) (cursor (u ++ d) (z ++ d)) ≡ Err (x ++ d)
  bind_local_err u z x k d h t pos e =
      elim (then_err (p (cursor (u ++ k) (z ++ k))) go (x ++ k) e) [
        | inl pe ↦ ap (λ (r : Outcome T A). and_then r go) (P.local_err u z x k d t pos pe)
        | inr o ↦
            let i = P.sound (cursor (u ++ k) (z ++ k)) o.0.0 o.0.1 t o.1 in
            let j = (F o.0.0).failed o.0.1 (x ++ k) (small (cursor (u ++ k) (z ++ k)) o.0.0 o.0.1 h i) (tied_on L N (cursor (u ++ k) (z ++ k)) o.0.0 o.0.1 t i) o.2 in
            let rl : length k ≤ length o.0.1.rest = omega (arith, j.inside, length-append x k) in
            let fl : length k < length o.0.1.far = omega (arith, j.shorter, length-append x k, pos) in
            let f1 = ap (go o.0.0) (sym (parts u z k d t o.0.0 o.0.1 i o.1 rl fl)) ∙ o.2 in
            ap (λ (r : Outcome T A). and_then r go) (same u z k d t o.0.0 o.0.1 i o.1 rl fl)
            ∙ (F o.0.0).local_err (rest_front u z k d t o.0.0 o.0.1 i o.1 rl fl).front (far_front u z k d t o.0.0 o.0.1 i o.1 rl fl).front x k d (less u z k d t o.0.0 o.0.1 i o.1 rl fl h) (t2 u z k d t o.0.0 o.0.1 i o.1 rl fl) pos f1
      ]

  pub bind_below : Below n (p >>= go) (Seq L M) H N'
  bind_below = record { sound = bind_sound; complete = bind_complete; failed = bind_failed; local_ok = bind_local_ok; local_err = bind_local_err }

pub bind_correct : {T A B : Type 0} (p : Parser T A) (go : A → Parser T B) (L : A → List T → List T → Type 0) (M : A → B → List T → List T → Type 0)
    (G N : A → List T → Type 0) (H N' : B → List T → Type 0) → Correct p L G N → ((a : A) → Correct (go a) (M a) H N')
    → ((a : A) (b : B) (u rest : List T) → M a b u rest → H b rest → G a (u ++ rest)) → ((a : A) (u : List T) → ((tail : List T) → N a tail → L a u tail) → Completion N a (M a) N') → Correct (p >>= go) (Seq L M) H N'
bind_correct {T} p go L M G N H N' P F stops some =
    correct (p >>= go) (Seq L M) H N' (λ n. bind_below n (λ _. n) p go L M G N H N' P (λ a. below n (go a) (M a) H N' (F a)) (λ a u rest l h. omega (arith, h, length-append u rest)) stops some)
