-- Tokens that are skipped.
use Rattle.std.proofs.Common.{
  ◌≡◌,
  ◌≤◌,
  ◌<◌,
  Bool,
  true,
  false,
  List,
  [],
  ◌∷◌,
  ◌++◌,
  length,
  Ok,
  Err,
  refl,
  sym,
  ap,
  subst,
  ◌∙◌,
  arith,
  inl,
  inr,
  ◌⊎◌,
  length-append,
}
use Rattle.std.proofs.lemmas.List.{append-nil, append_cancel_right}
use Rattle.kt_grammar_parsers.specs.Parsers.{Cursor, cursor, further, first, behind, skip}
use Rattle.kt_grammar_parsers.specs.Phrases.{AllPass, IsSkipped}
use Rattle.kt_grammar_parsers.proofs.Ends.{further_cases, further_short}
use Rattle.kt_grammar_parsers.proofs.Correct.{Begun, Reading, Accepted, Correct}
use Rattle.kt_grammar_parsers.proofs.Steps.{truth, mark_moves}

record Lead {T : Type 0} (test : T → Bool) (ts : List T) : Type 0 where
  front : List T
  pass : AllPass test front
  is : ts ≡ front ++ behind test ts

lead : {T : Type 0} (test : T → Bool) (ts : List T) → Lead test ts
lead test [] = record { front = []; pass = tt; is = refl }
lead {T} test (t ∷ ts) = elim (truth (test t)) [
  | inl y ↦ let r = lead test ts in record { front = t ∷ r.front; pass = (y, r.pass); is = ap (λ (z : List T). t ∷ z) r.is ∙ rw y refl }
  | inr n ↦ record { front = []; pass = tt; is = rw n refl }
]

pub behind_stops : {T : Type 0} (test : T → Bool) (ts : List T) → first test (behind test ts) ≡ false
behind_stops test [] = refl
behind_stops test (t ∷ ts) = elim (truth (test t)) [ inl y ↦ rw y (behind_stops test ts) | inr n ↦ rw n n ]

behind_all : {T : Type 0} (test : T → Bool) (u rest : List T) → AllPass test u → first test rest ≡ false → behind test (u ++ rest) ≡ rest
behind_all test [] [] h n = refl
behind_all test [] (t ∷ rest) h n = rw n refl
behind_all test (t ∷ u) rest h n = rw h.0 (behind_all test u rest h.1 n)

behind_short : {T : Type 0} (test : T → Bool) (ts : List T) → length (behind test ts) ≤ length ts
behind_short test ts = let r = lead test ts in omega (arith, ap length r.is, length-append r.front (behind test ts))

-- what is skipped does not depend on what stands behind the first token that is not
record Same {T : Type 0} (test : T → Bool) (u : List T) : Type 0 where
  front : List T
  is : (d : List T) → behind test (u ++ d) ≡ front ++ d

step : {T : Type 0} (test : T → Bool) (t : T) (ts : List T) → test t ≡ true → behind test (t ∷ ts) ≡ behind test ts
step test t ts h = rw h refl

same : {T : Type 0} (test : T → Bool) (u k : List T) → length k < length (behind test (u ++ k)) → Same test u
same test [] k h = absurd (omega (arith, h, behind_short test k))
same {T} test (t ∷ u) k h = elim (truth (test t)) [
  | inl y ↦
      let s = same test u k (omega (arith, h, ap length (step test t (u ++ k) y))) in
      record { front = s.front; is = λ d. step test t (u ++ d) y ∙ s.is d }
  | inr n ↦ record { front = t ∷ u; is = λ d. rw n refl }
]

module _ {T : Type 0} (test : T → Bool) (G N : Unit {0} → List T → Type 0) (stops : (rest : List T) → N tt rest → first test rest ≡ false) where
  skipped : Cursor T → Cursor T
  skipped c = cursor (behind test c.rest) (further (behind test c.rest) c.far)

  skip_is : (c c' : Cursor T) (a : Unit {0}) → skip test c ≡ Ok (a, c') → (behind test c.rest ≡ c'.rest) × (further (behind test c.rest) c.far ≡ c'.far)
  unfolding skip
  skip_is c c' a e =
      let p : (tt, cursor (behind test c.rest) (further (behind test c.rest) c.far)) ≡ (a, c') = cc in
      (ap (λ (r : Unit {0} × Cursor T). r.1.rest) p, ap (λ (r : Unit {0} × Cursor T). r.1.far) p)

  skip_far : (c : Cursor T) (k : List T) → further (behind test c.rest) c.far ≡ k → (k ≡ c.far) ⊎ Begun (IsSkipped test) N c.rest k
  skip_far c k e = elim (further_cases (behind test c.rest) c.far) [
    | inl f ↦ let r = lead test c.rest in
        inr (record {
          read = r.front;
          more = [];
          whole = tt;
          is = r.is ∙ ap (λ (z : List T). r.front ++ z) (sym f.1 ∙ e);
          phrase = λ tail h. record { pass = subst (λ (z : List T). AllPass test z) (sym (append-nil r.front)) r.pass; all = stops tail h };
        })
    | inr f ↦ inl (sym e ∙ f.1)
  ]

  skip_sound : (c : Cursor T) (a : Unit {0}) (c' : Cursor T) → skip test c ≡ Ok (a, c') → Reading (IsSkipped test) N c a c'
  skip_sound c a c' e =
      let i = skip_is c c' a e in
      let r = lead test c.rest in
      record {
        read = r.front;
        is = r.is ∙ ap (λ (z : List T). r.front ++ z) i.0;
        phrase = record { pass = r.pass; all = ap (λ (z : List T). first test z) (sym i.0) ∙ behind_stops test c.rest };
        far = skip_far c c'.far i.1;
        shorter = omega (arith, ap length i.1, (further_short (behind test c.rest) c.far).1);
      }

  skip_complete : (a : Unit {0}) (u rest far : List T) → IsSkipped test a u rest → Accepted (skip test) a u rest far
  unfolding skip
  skip_complete a u rest far l = let e = behind_all test u rest l.pass l.all in record { far' = further rest far; is = rw e refl }

  skip_local : (a : Unit {0}) (u z y x k d : List T) → 0 < length x → skip test (cursor (u ++ k) (z ++ k)) ≡ Ok (a, cursor (y ++ k) (x ++ k)) → skip test (cursor (u ++ d) (z ++ d)) ≡ Ok (a, cursor (y ++ d) (x ++ d))
  unfolding skip
  skip_local a u z y x k d pos e =
      let i = skip_is (cursor (u ++ k) (z ++ k)) (cursor (y ++ k) (x ++ k)) a e in
      let s = same test u k (omega (arith, pos, ap length i.1, (further_short (behind test (u ++ k)) (z ++ k)).0, length-append x k)) in
      let fy : s.front ≡ y = append_cancel_right s.front y k (sym (s.is k) ∙ i.0) in
      let rests : behind test (u ++ d) ≡ y ++ d = s.is d ∙ ap (λ (q : List T). q ++ d) fy in
      let marks : further (y ++ d) (z ++ d) ≡ x ++ d = mark_moves y z x k d (ap (λ (q : List T). further q (z ++ k)) (sym i.0) ∙ i.1) in
      rw (rests, marks) refl

  never : (c : Cursor T) (k : List T) → skip test c ≡ Err k → ⊥
  unfolding skip
  never c k e = absurd cc

  pub skip_correct : Correct (skip test) (IsSkipped test) G N
  skip_correct = record {
    sound = λ c a c' t e. skip_sound c a c' e;
    complete = λ a u rest far t l g. skip_complete a u rest far l;
    failed = λ c k t e. absurd (never c k e);
    local_ok = λ a u z y x k d t pos e. skip_local a u z y x k d pos e;
    local_err = λ u z x k d t pos e. absurd (never (cursor (u ++ k) (z ++ k)) (x ++ k) e);
  }
