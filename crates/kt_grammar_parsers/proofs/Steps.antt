-- The steps that read tokens one by one.
use Rattle.std.proofs.Common.{
  ◌≡◌,
  ◌≤◌,
  ◌<◌,
  Bool,
  true,
  false,
  cond,
  List,
  [],
  ◌∷◌,
  ◌++◌,
  length,
  Ok,
  Err,
  refl,
  sym,
  ap,
  subst,
  ◌∙◌,
  arith,
  inl,
  inr,
  ◌⊎◌,
  length-append,
}
use Rattle.std.proofs.lemmas.List.{append_cancel_right}
use Rattle.kt_grammar_parsers.specs.Parsers.{Cursor, cursor, further, pure, token}
use Rattle.kt_grammar_parsers.specs.Phrases.{IsNothing, IsToken}
use Rattle.kt_grammar_parsers.proofs.Ends.{picks, further_cases, further_short}
use Rattle.kt_grammar_parsers.proofs.Correct.{Begun, Reading, Refusal, Accepted, Correct}

-- anything may follow
abbrev pub Any : {T A : Type 0} → A → List T → Type 0
Any a rest = Unit {0}

pub truth : (b : Bool) → (b ≡ true) ⊎ (b ≡ false)
truth true = inl refl
truth false = inr refl

-- ---- nothing

pure_is : {T A : Type 0} (a b : A) (c c' : Cursor T) → pure a c ≡ Ok (b, c') → (b ≡ a) × (c ≡ c')
pure_is {T} {A} a b c c' e = let p : (a, c) ≡ (b, c') = cc in (ap (λ (r : A × Cursor T). r.0) (sym p), ap (λ (r : A × Cursor T). r.1) p)

pub pure_correct : {T A : Type 0} (a : A) (G N : A → List T → Type 0) → Correct (pure a) (IsNothing a) G N
pure_correct {T} {A} a G N = record {
  sound = λ c b c' t o. let i = pure_is a b c c' o in
      record { read = []; is = ap (λ (r : Cursor T). r.rest) i.1; phrase = record { value = i.0; none = refl }; far = inl (ap (λ (r : Cursor T). r.far) (sym i.1)); shorter = omega (arith, ap (λ (r : Cursor T). length r.far) i.1) };
  complete = λ b u rest far t l g. record { far' = far; is = rw (l.none, l.value) refl };
  failed = λ c k t o. absurd cc;
  local_ok = λ b u z y x k d t pos o.
      let i = pure_is a b (cursor (u ++ k) (z ++ k)) (cursor (y ++ k) (x ++ k)) o in
      let uy : u ≡ y = append_cancel_right u y k (ap (λ (r : Cursor T). r.rest) i.1) in
      let zx : z ≡ x = append_cancel_right z x k (ap (λ (r : Cursor T). r.far) i.1) in
      rw (uy, zx, i.0) refl;
  local_err = λ u z x k d t pos o. absurd cc;
}

-- ---- a token

pub if_ok : {T A : Type 0} (b : Bool) (x y : A × Cursor T) (d : List T) → cond b (Ok x) (Err d) ≡ Ok y → (b ≡ true) × (x ≡ y)
if_ok true x y d e = (refl, cc)
if_ok false x y d e = absurd cc

pub if_err : {T A : Type 0} (b : Bool) (x : A × Cursor T) (d k : List T) → cond b (Ok x) (Err d) ≡ Err k → (b ≡ false) × (d ≡ k)
if_err true x d k e = absurd cc
if_err false x d k e = (refl, cc)

-- what is refused at the rest was begun, since there is a phrase
pub refused_at : {T A : Type 0} (L : A → List T → List T → Type 0) (N : A → List T → Type 0) (c : Cursor T) (k : List T) → Begun L N c.rest k → length k ≤ length c.rest → Refusal L N c (further k c.far)
refused_at {T} L N c k r h =
    elim (further_cases k c.far) [
      | inl f ↦ record { far = inr (subst (λ (z : List T). Begun L N c.rest z) (sym f.1) r); shorter = omega (arith, f.0, ap length f.1); inside = omega (arith, h, ap length f.1) }
      | inr f ↦ record { far = inl f.1; shorter = omega (arith, ap length f.1); inside = omega (arith, h, f.0, ap length f.1) }
    ]

-- the mark at the same place, where something else follows
pub mark_moves : {T : Type 0} (u z x k d : List T) → further (u ++ k) (z ++ k) ≡ x ++ k → further (u ++ d) (z ++ d) ≡ x ++ d
mark_moves {T} u z x k d e =
    let p = picks u z in
    let same : p.front ≡ x = append_cancel_right p.front x k (sym (p.is k) ∙ e) in
    p.is d ∙ ap (λ (q : List T). q ++ d) same

module _ {T : Type 0} (test : T → Bool) (witness : T) (passes : test witness ≡ true) (N : T → List T → Type 0) where
  one_reads : (ts far : List T) (a : T) (c' : Cursor T) → token test (cursor ts far) ≡ Ok (a, c') → Reading (IsToken test) N (cursor ts far) a c'
  unfolding token
  one_reads [] far a c' e = absurd cc
  one_reads (t ∷ ts) far a c' e =
      let i = if_ok (test t) (t, cursor ts far) (a, c') (further (t ∷ ts) far) e in
      let same : t ≡ a = ap (λ (r : T × Cursor T). r.0) i.1 in
      let at : cursor ts far ≡ c' = ap (λ (r : T × Cursor T). r.1) i.1 in
      record { read = t ∷ []; is = ap (λ (r : Cursor T). t ∷ r.rest) at; phrase = record { passes = ap test (sym same) ∙ i.0; one = ap (λ (z : T). z ∷ []) same }; far = inl (ap (λ (r : Cursor T). r.far) (sym at)); shorter = omega (arith, ap (λ (r : Cursor T). length r.far) at) }

  one_is_refused : (ts far k : List T) → token test (cursor ts far) ≡ Err k → further ts far ≡ k
  unfolding token
  one_is_refused [] far k e = cc
  one_is_refused (t ∷ ts) far k e = (if_err (test t) (t, cursor ts far) (further (t ∷ ts) far) k e).1

  one_fails : (c : Cursor T) (k : List T) → token test c ≡ Err k → Refusal (IsToken test) N c k
  one_fails c k e =
      subst (λ (z : List T). Refusal (IsToken test) N c z) (one_is_refused c.rest c.far k e)
      (refused_at (IsToken test) N c c.rest (record { read = []; more = witness ∷ []; whole = witness; is = refl; phrase = λ tail h. record { passes = passes; one = refl } }) (omega arith))

  one_local_ok : (a : T) (u z y x k d : List T) → token test (cursor (u ++ k) (z ++ k)) ≡ Ok (a, cursor (y ++ k) (x ++ k)) → token test (cursor (u ++ d) (z ++ d)) ≡ Ok (a, cursor (y ++ d) (x ++ d))
  unfolding token
  one_local_ok a [] z y x k d e =
      let r = one_reads k (z ++ k) a (cursor (y ++ k) (x ++ k)) e in
      absurd (omega (arith, ap length r.is, length-append r.read (y ++ k), length-append y k, ap length r.phrase.one))
  one_local_ok a (t ∷ u) z y x k d e =
      let i = if_ok (test t) (t, cursor (u ++ k) (z ++ k)) (a, cursor (y ++ k) (x ++ k)) (further (t ∷ u ++ k) (z ++ k)) e in
      let uy : u ≡ y = append_cancel_right u y k (ap (λ (q : T × Cursor T). q.1.rest) i.1) in
      let zx : z ≡ x = append_cancel_right z x k (ap (λ (q : T × Cursor T). q.1.far) i.1) in
      let ta : t ≡ a = ap (λ (q : T × Cursor T). q.0) i.1 in
      rw (i.0, uy, zx, ta) refl

  one_local_err : (u z x k d : List T) → 0 < length x → token test (cursor (u ++ k) (z ++ k)) ≡ Err (x ++ k) → token test (cursor (u ++ d) (z ++ d)) ≡ Err (x ++ d)
  unfolding token
  one_local_err [] z x k d pos e =
      let i = one_is_refused k (z ++ k) (x ++ k) e in
      absurd (omega (arith, pos, ap length i, (further_short k (z ++ k)).0, length-append x k))
  one_local_err (t ∷ u) z x k d pos e =
      let i = if_err (test t) (t, cursor (u ++ k) (z ++ k)) (further (t ∷ u ++ k) (z ++ k)) (x ++ k) e in
      rw i.0 (ap Err (mark_moves (t ∷ u) z x k d i.1))

  one_complete : (a : T) (u rest far : List T) → IsToken test a u rest → Accepted (token test) a u rest far
  unfolding token
  one_complete a u rest far l = record { far' = far; is = rw (l.one, l.passes) refl }

  pub token_correct : (G : T → List T → Type 0) → Correct (token test) (IsToken test) G N
  token_correct G = record {
    sound = λ c a c' t e. one_reads c.rest c.far a c' e;
    complete = λ a u rest far t l g. one_complete a u rest far l;
    failed = λ c k t e. one_fails c k e;
    local_ok = λ a u z y x k d t pos e. one_local_ok a u z y x k d e;
    local_err = λ u z x k d t pos e. one_local_err u z x k d pos e;
  }
