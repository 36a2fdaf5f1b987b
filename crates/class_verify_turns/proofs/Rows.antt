-- Lists that grow, and what stands in them.
use Rattle.std.proofs.Common.{◌≡◌, ℕ, zero, suc, ◌+◌, ◌<◌, ◌≤◌, ◌⊎◌, inl, inr, Bool, true, false, List, [], ◌∷◌, ◌++◌, length, map, Option, Some, None, option_map, refl, sym, ap, subst, ◌∙◌, arith}
use Rattle.std.specs.Prelude.{slice_get, ◌==◌, ◌||◌}
use Rattle.std.specs.List.{list_any}
use Rattle.std.proofs.lemmas.Bool.{cases_lt, eq-eqb, ne_eqb, eqb-true}
use Rattle.std.proofs.lemmas.Option.{slice_get-map}
use Rattle.jvm_code_instructions.specs.declared.instr.Instr.{Instr}
use Rattle.class_linked.specs.declared.code.LinkedHandler.{LinkedHandler}
use Rattle.class_supers.specs.Graph.{Ascends, Has}
use Rattle.class_verify_rules.specs.Bodies.{Body, instruction}
use Rattle.class_verify_rules.specs.Typing.{Covers}
use Rattle.class_verify_rules.specs.Turns.{IsFirst}
use Rattle.class_verify_frames.proofs.Offsets.{mapped}
use Rattle.class_verify_turns.specs.Timing.{Adds, AreNext, IsAt, IsHandler, IsPlace, IsSeen, IsTarget, Stands}

left : {A : Type 0} (xs ys : List A) (n : ℕ) (j : A) → slice_get xs n ≡ Some j → slice_get (xs ++ ys) n ≡ Some j
left [] ys n j e = absurd cc
left (x ∷ xs) ys zero j e = e
left (x ∷ xs) ys (suc n) j e = left xs ys n j e

last : {A : Type 0} (xs : List A) (x : A) → slice_get (xs ++ x ∷ []) (length xs) ≡ Some x
last [] x = refl
last (y ∷ xs) x = last xs x

pub split : {A : Type 0} (xs : List A) (x : A) (n : ℕ) (j : A) → slice_get (xs ++ x ∷ []) n ≡ Some j → (slice_get xs n ≡ Some j) ⊎ ((n ≡ length xs) × (j ≡ x))
split [] x zero j e = inr (refl, cc)
split [] x (suc n) j e = absurd cc
split (y ∷ xs) x zero j e = inl e
split (y ∷ xs) x (suc n) j e = elim (split xs x n j e) [ inl a ↦ inl a | inr b ↦ inr (ap (λ k. suc k) b.0, b.1) ]

module _ (P : ℕ → Type 0) (old : List ℕ) where
  pub adds_nothing : ((j : ℕ) → P j → ⊥) → Adds P old old
  adds_nothing none = record { kept = λ j s. s; added = λ j p. absurd (none j p); only = λ j s. inl s }

  pub adds_one : (x : ℕ) (new : List ℕ) → new ≡ old ++ x ∷ [] → P x → ((j : ℕ) → P j → j ≡ x) → Adds P old new
  adds_one x new e p one = subst (Adds P old) (sym e) (record {
    kept = λ j s. (s.0, left old (x ∷ []) s.0 j s.1);
    added = λ j q. (length old, last old x ∙ ap Some (sym (one j q)));
    only = λ j s. elim (split old x s.0 j s.1) [ inl a ↦ inl (s.0, a) | inr b ↦ inr (subst P (sym b.1) p) ];
  })

  pub adds_same : (Q : ℕ → Type 0) (new : List ℕ) → Adds Q old new → ((j : ℕ) → Q j → P j) → ((j : ℕ) → P j → Q j) → Adds P old new
  adds_same Q new a there back = record {
    kept = a.kept;
    added = λ j p. a.added j (back j p);
    only = λ j s. elim (a.only j s) [ inl o ↦ inl o | inr q ↦ inr (there j q) ];
  }

  pub adds_then : (Q R : ℕ → Type 0) (mid new : List ℕ) → Adds Q old mid → Adds R mid new → ((j : ℕ) → Q j → P j) → ((j : ℕ) → R j → P j) → ((j : ℕ) → P j → Q j ⊎ R j) → Adds P old new
  adds_then Q R mid new a b first second back = record {
    kept = λ j s. b.kept j (a.kept j s);
    added = λ j p. elim (back j p) [ inl q ↦ b.kept j (a.added j q) | inr r ↦ b.added j r ];
    only = λ j s. elim (b.only j s) [
      | inl m ↦ elim (a.only j m) [ inl o ↦ inl o | inr q ↦ inr (first j q) ]
      | inr r ↦ inr (second j r)
    ];
  }

-- ---- places by their offsets

low_at : (k : ℕ) (xs : List ℕ) (i o : ℕ) → Ascends k xs → slice_get xs i ≡ Some o → k ≤ o
low_at k [] i o h e = absurd cc
low_at k (x ∷ xs) zero o h e = let same : x ≡ o = cc in subst (λ y. k ≤ y) same h.0
low_at k (x ∷ xs) (suc i) o h e = omega (arith, h.0, low_at (suc x) xs i o h.1 e)

pub same_place : (k : ℕ) (xs : List ℕ) (i j o : ℕ) → Ascends k xs → slice_get xs i ≡ Some o → slice_get xs j ≡ Some o → i ≡ j
same_place k [] i j o h e f = absurd cc
same_place k (x ∷ xs) zero zero o h e f = refl
same_place k (x ∷ xs) zero (suc j) o h e f = let same : x ≡ o = cc in absurd (omega (arith, same, low_at (suc x) xs j o h.1 f))
same_place k (x ∷ xs) (suc i) zero o h e f = let same : x ≡ o = cc in absurd (omega (arith, same, low_at (suc x) xs i o h.1 e))
same_place k (x ∷ xs) (suc i) (suc j) o h e f = ap (λ n. suc n) (same_place (suc x) xs i j o h.1 e f)

abbrev pub offset_of : ℕ × Instr → ℕ
offset_of i = i.0

pub place_stands : (b : Body) (starts : List ℕ) (o j : ℕ) → starts ≡ map (λ i. i.0) b.code.instructions → IsPlace b o j → slice_get starts j ≡ Some o
place_stands b starts o j is p =
    ap (λ xs. slice_get xs j) is ∙ slice_get-map offset_of b.code.instructions j ∙ ap (option_map offset_of) p.1 ∙ ap Some p.2

pub stands_place : (b : Body) (starts : List ℕ) (o j : ℕ) → starts ≡ map (λ i. i.0) b.code.instructions → slice_get starts j ≡ Some o → IsPlace b o j
stands_place b starts o j is e = mapped offset_of b.code.instructions j o (subst (λ xs. slice_get xs j ≡ Some o) is e)

pub target_next : (b : Body) (targets : List ℕ) (n o : ℕ) (old mid new : List ℕ) → slice_get targets n ≡ Some o → Adds (IsTarget b targets n) old mid → Adds (IsPlace b o) mid new → Adds (IsTarget b targets (n + 1)) old new
target_next b targets n o old mid new e a c =
    adds_then (IsTarget b targets (n + 1)) old (IsTarget b targets n) (IsPlace b o) mid new a c
    (λ j t. (t.0, t.1, omega (arith, t.2), t.3, t.4)) (λ j p. (n, o, omega arith, e, p))
    (λ j t. elim (cases_lt t.0 n) [
      | inl lt ↦ inl (t.0, t.1, lt, t.3, t.4)
      | inr le ↦
          let q : t.0 ≡ n = omega (arith, t.2, le) in
          let same : t.1 ≡ o = (let f : slice_get targets n ≡ Some t.1 = subst (λ k. slice_get targets k ≡ Some t.1) q t.3 in cc) in
          inr (subst (λ x. IsPlace b x j) same t.4)
    ])

pub handler_next : (b : Body) (handlers : List LinkedHandler) (at n : ℕ) (h : LinkedHandler) (old mid new : List ℕ) → slice_get handlers n ≡ Some h → Adds (IsHandler b handlers at n) old mid → Adds (λ j. Covers h at × IsPlace b h.handler j) mid new → Adds (IsHandler b handlers at (n + 1)) old new
handler_next b handlers at n h old mid new e a c =
    adds_then (IsHandler b handlers at (n + 1)) old (IsHandler b handlers at n) (λ j. Covers h at × IsPlace b h.handler j) mid new a c
    (λ j t. (t.0, t.1, omega (arith, t.2), t.3, t.4, t.5)) (λ j p. (n, h, omega arith, e, p.0, p.1))
    (λ j t. elim (cases_lt t.0 n) [
      | inl lt ↦ inl (t.0, t.1, lt, t.3, t.4, t.5)
      | inr le ↦
          let q : t.0 ≡ n = omega (arith, t.2, le) in
          let same : t.1 ≡ h = (let f : slice_get handlers n ≡ Some t.1 = subst (λ k. slice_get handlers k ≡ Some t.1) q t.3 in cc) in
          inr (subst (λ (x : LinkedHandler). Covers x at × IsPlace b x.handler j) same (t.4, t.5))
    ])

-- ---- numbers in a list

pub stands_has : (xs : List ℕ) (n x : ℕ) → slice_get xs n ≡ Some x → Has xs x
stands_has [] n x e = absurd cc
stands_has (y ∷ xs) zero x e = let t : (y == x) ≡ true = eq-eqb y x cc in rw t refl
stands_has (y ∷ xs) (suc n) x e = rw (stands_has xs n x e) (any_or (y == x))
  where
    any_or : (t : Bool) → (t || true) ≡ true
    any_or true = refl
    any_or false = refl

pub has_stands : (xs : List ℕ) (x : ℕ) → Has xs x → Stands xs x
has_stands [] x h = absurd cc
has_stands (y ∷ xs) x h = by (y == x) refl h (has_stands xs x)
  where
    by : (t : Bool) → (y == x) ≡ t → (t || list_any (λ z. z == x) xs) ≡ true → (Has xs x → Stands xs x) → Stands (y ∷ xs) x
    by true e g again = (0, ap Some (eqb-true y x e))
    by false e g again = let r = again g in (suc r.0, r.1)

-- ---- one more row

pub next_more : (b : Body) (place : ℕ) (rows new : List (List ℕ)) (row : List ℕ) → new ≡ rows ++ row ∷ [] → length rows ≡ place → ((k : ℕ) (r : List ℕ) → slice_get rows k ≡ Some r → AreNext b k r) → AreNext b place row → (k : ℕ) (r : List ℕ) → slice_get new k ≡ Some r → AreNext b k r
next_more b place rows new row e long each here k r f =
    elim (split rows row k r (subst (λ xs. slice_get xs k ≡ Some r) e f)) [
      | inl a ↦ each k r a
      | inr q ↦ subst (AreNext b k) (sym q.1) (subst (λ n. AreNext b n row) (sym (q.0 ∙ long)) here)
    ]

pub one_longer : {A : Type 0} (xs : List A) (x : A) → length (xs ++ x ∷ []) ≡ length xs + 1
one_longer [] x = refl
one_longer (y ∷ xs) x = omega (arith, one_longer xs x)

-- ---- one more instruction

pub seen_next : (b : Body) (test : ℕ × Instr → Bool) (place : ℕ) (i : ℕ × Instr) (seen new : Bool) → IsAt b place i → new ≡ (seen || test i) → IsSeen b test place seen → IsSeen b test (place + 1) new
seen_next b test place i seen new is e s = by seen (test i) refl refl
  where
    shorter : IsFirst b test (place + 1) → IsFirst b test place
    shorter f k j lt at = f k j (omega (arith, lt)) at

    longer : IsFirst b test place → test i ≡ false → IsFirst b test (place + 1)
    longer f t k j lt at = elim (cases_lt k place) [
      | inl less ↦ f k j less at
      | inr le ↦
          let q : k ≡ place = omega (arith, lt, le) in
          let same : j ≡ i = (let g : instruction b place ≡ Some j = subst (λ n. instruction b n ≡ Some j) q at in cc) in
          subst (λ (x : ℕ × Instr). test x ≡ false) (sym same) t
    ]

    clash : {A : Type 0} → true ≡ false → A
    clash q = absurd cc

    by : (was this : Bool) → seen ≡ was → test i ≡ this → IsSeen b test (place + 1) new
    by true this p q = record {
      none = λ n. clash (sym (e ∙ ap (λ t. t || test i) p) ∙ n);
      some = λ n f. s.some p (shorter f);
    }
    by false true p q = record {
      none = λ n. clash (sym (e ∙ ap (λ t. t || test i) p ∙ q) ∙ n);
      some = λ n f. clash (sym q ∙ f place i (omega arith) is);
    }
    by false false p q = record {
      none = λ n. longer (s.none p) q;
      some = λ n f. clash (sym n ∙ (e ∙ ap (λ t. t || test i) p ∙ q));
    }
