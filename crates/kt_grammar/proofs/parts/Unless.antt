-- A parser that is refused where the next token passes a test.
use Rattle.std.proofs.Common.{
  ◌≡◌,
  ◌<◌,
  Bool,
  true,
  false,
  List,
  [],
  ◌∷◌,
  ◌++◌,
  length,
  Ok,
  Err,
  refl,
  sym,
  ap,
  subst,
  ◌∙◌,
  arith,
  inl,
  inr,
  ◌⊎◌,
  length-append,
}
use Rattle.kt_tree.specs.declared.tokens.Token.{Token}
use Rattle.kt_grammar_parsers.specs.Parsers.{Cursor, Outcome, Parser, cursor, further, first}
use Rattle.kt_grammar.specs.StatementParser.{refused_if, unless}
use Rattle.kt_grammar_parsers.proofs.Ends.{Tied}
use Rattle.kt_grammar_parsers.proofs.Correct.{Begun, Reading, Refusal, Accepted, Correct}
use Rattle.kt_grammar_parsers.proofs.Steps.{Any, truth, refused_at, mark_moves}
use Rattle.kt_grammar_parsers.proofs.On.{Phrase, first_same}

err_is : {A : Type 0} (o : Outcome Token A) (a b : List Token) → o ≡ Err a → o ≡ Err b → a ≡ b
err_is o a b e f = cc

module _ {A : Type 0} (test : Token → Bool) (p : Parser Token A) (L : A → List Token → List Token → Type 0) (N : A → List Token → Type 0) (P : Correct p L Any N)
    (eats : (a : A) (u rest : List Token) → L a u rest → 0 < length u) (some : Phrase L N) (starts : (tail : List Token) → first test (some.tokens ++ tail) ≡ false) where
  abbrev pub Unless : A → List Token → List Token → Type 0
  Unless a u rest = L a u rest × (first test (u ++ rest) ≡ false)

  refuses : (c : Cursor Token) → first test c.rest ≡ true → unless test p c ≡ Err (further c.rest c.far)
  refuses c e = ap (λ (b : Bool). refused_if b p c) e

  reads : (c : Cursor Token) → first test c.rest ≡ false → unless test p c ≡ p c
  reads c e = ap (λ (b : Bool). refused_if b p c) e

  at_start : (ts : List Token) → Begun Unless N ts ts
  at_start ts = record { read = []; more = some.tokens; whole = some.whole; is = refl; phrase = λ tail h. (some.phrase tail h, starts tail) }

  begun_by : (ts k read more : List Token) (whole : A) → ts ≡ read ++ k → ((tail : List Token) → N whole tail → L whole (read ++ more) tail) → first test ts ≡ false → Begun Unless N ts k
  begun_by ts k [] more whole is phrase h = subst (λ (z : List Token). Begun Unless N ts z) is (at_start ts)
  begun_by ts k (t ∷ read) more whole is phrase h = record { read = t ∷ read; more = more; whole = whole; is = is; phrase = λ tail n. (phrase tail n, ap (first test) (sym is) ∙ h) }

  begun : (ts k : List Token) → first test ts ≡ false → Begun L N ts k → Begun Unless N ts k
  begun ts k h x = begun_by ts k x.read x.more x.whole x.is x.phrase h

  far_begun : (far ts k : List Token) → first test ts ≡ false → (k ≡ far) ⊎ Begun L N ts k → (k ≡ far) ⊎ Begun Unless N ts k
  far_begun far ts k h (inl e) = inl e
  far_begun far ts k h (inr x) = inr (begun ts k h x)

  not_ok : (o : Outcome Token A) (x : A × Cursor Token) (k : List Token) → o ≡ Err k → o ≡ Ok x → ⊥
  not_ok (Ok y) x k e f = absurd cc
  not_ok (Err d) x k e f = absurd cc

  unless_sound : (c : Cursor Token) (a : A) (c' : Cursor Token) → Tied c → unless test p c ≡ Ok (a, c') → Reading Unless N c a c'
  unless_sound c a c' t e = elim (truth (first test c.rest)) [
    | inl y ↦ absurd (not_ok (unless test p c) (a, c') (further c.rest c.far) (refuses c y) e)
    | inr n ↦ let x = P.sound c a c' t (sym (reads c n) ∙ e) in record { read = x.read; is = x.is; phrase = (x.phrase, ap (first test) (sym x.is) ∙ n); far = far_begun c.far c.rest c'.far n x.far; shorter = x.shorter }
  ]

  unless_failed : (c : Cursor Token) (k : List Token) → Tied c → unless test p c ≡ Err k → Refusal Unless N c k
  unless_failed c k t e = elim (truth (first test c.rest)) [
    | inl y ↦ subst (λ (z : List Token). Refusal Unless N c z) (err_is (unless test p c) (further c.rest c.far) k (refuses c y) e) (refused_at Unless N c c.rest (at_start c.rest) (omega arith))
    | inr n ↦ let x = P.failed c k t (sym (reads c n) ∙ e) in record { far = far_begun c.far c.rest k n x.far; shorter = x.shorter; inside = x.inside }
  ]

  unless_complete : (a : A) (u rest far : List Token) → Tied (cursor (u ++ rest) far) → Unless a u rest → Accepted (unless test p) a u rest far
  unless_complete a u rest far t l = let x = P.complete a u rest far t l.0 tt in record { far' = x.far'; is = reads (cursor (u ++ rest) far) l.1 ∙ x.is }

  unless_local_ok : (a : A) (u z y x k d : List Token) → Tied (cursor (u ++ k) (z ++ k)) → 0 < length x → unless test p (cursor (u ++ k) (z ++ k)) ≡ Ok (a, cursor (y ++ k) (x ++ k)) → unless test p (cursor (u ++ d) (z ++ d)) ≡ Ok (a, cursor (y ++ d) (x ++ d))
  unless_local_ok a u z y x k d t pos e = elim (truth (first test (u ++ k))) [
    | inl g ↦ absurd (not_ok (unless test p (cursor (u ++ k) (z ++ k))) (a, cursor (y ++ k) (x ++ k)) (further (u ++ k) (z ++ k)) (refuses (cursor (u ++ k) (z ++ k)) g) e)
    | inr g ↦
        let pe = sym (reads (cursor (u ++ k) (z ++ k)) g) ∙ e in
        let i = P.sound (cursor (u ++ k) (z ++ k)) a (cursor (y ++ k) (x ++ k)) t pe in
        let some_u : 0 < length u = omega (arith, eats a i.read (y ++ k) i.phrase, ap length i.is, length-append u k, length-append i.read (y ++ k), length-append y k) in
        reads (cursor (u ++ d) (z ++ d)) (sym (first_same test u k d some_u) ∙ g) ∙ P.local_ok a u z y x k d t pos pe
  ]

  unless_local_err : (u z x k d : List Token) → Tied (cursor (u ++ k) (z ++ k)) → 0 < length x → unless test p (cursor (u ++ k) (z ++ k)) ≡ Err (x ++ k) → unless test p (cursor (u ++ d) (z ++ d)) ≡ Err (x ++ d)
  unless_local_err u z x k d t pos e =
      let f = unless_failed (cursor (u ++ k) (z ++ k)) (x ++ k) t e in
      let some_u : 0 < length u = omega (arith, f.inside, pos, length-append x k, length-append u k) in
      elim (truth (first test (u ++ k))) [
        | inl g ↦ refuses (cursor (u ++ d) (z ++ d)) (sym (first_same test u k d some_u) ∙ g) ∙ ap Err (mark_moves u z x k d (err_is (unless test p (cursor (u ++ k) (z ++ k))) (further (u ++ k) (z ++ k)) (x ++ k) (refuses (cursor (u ++ k) (z ++ k)) g) e))
        | inr g ↦ reads (cursor (u ++ d) (z ++ d)) (sym (first_same test u k d some_u) ∙ g) ∙ P.local_err u z x k d t pos (sym (reads (cursor (u ++ k) (z ++ k)) g) ∙ e)
      ]

  pub unless_correct : Correct (unless test p) Unless Any N
  unless_correct = record { sound = unless_sound; complete = λ a u rest far t l g. unless_complete a u rest far t l; failed = unless_failed; local_ok = unless_local_ok; local_err = unless_local_err }
