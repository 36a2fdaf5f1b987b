-- A token that stands for something, and a choice where there is room.
use Rattle.std.proofs.Common.{
  ◌≡◌,
  ◌<◌,
  List,
  [],
  ◌∷◌,
  ◌++◌,
  length,
  Option,
  None,
  Some,
  Ok,
  Err,
  refl,
  sym,
  ap,
  subst,
  ◌∙◌,
  arith,
  inl,
  length-append,
}
use Rattle.std.proofs.lemmas.List.{append_cancel_right}
use Rattle.kt_tree.specs.declared.tokens.Token.{Token}
use Rattle.kt_grammar_parsers.specs.Parsers.{Cursor, cursor, further}
use Rattle.kt_grammar.specs.Terminals.{Meaning}
use Rattle.kt_grammar.specs.Words.{IsMeant}
use Rattle.kt_grammar.specs.Readers.{meant, meant_by}
use Rattle.kt_grammar_parsers.proofs.Ends.{further_short}
use Rattle.kt_grammar_parsers.proofs.Correct.{Reading, Refusal, Accepted, Correct}
use Rattle.kt_grammar_parsers.proofs.Steps.{Any, refused_at, mark_moves}

module _ {A : Type 0} (of : Meaning A) (witness : Token) (value : A) (stands : of witness ≡ Some value) (N : Token × A → List Token → Type 0) where
  by_ok : (o : Option A) (t : Token) (ts far : List Token) (found : Token × A) (c : Cursor Token) → meant_by o t ts far ≡ Ok (found, c) → (o ≡ Some found.1) × (t ≡ found.0) × (cursor ts far ≡ c)
  by_ok None t ts far found c e = absurd cc
  by_ok (Some a) t ts far found c e =
      let p : ((t, a), cursor ts far) ≡ (found, c) = cc in
      (ap (λ (r : (Token × A) × Cursor Token). Some r.0.1) p, ap (λ (r : (Token × A) × Cursor Token). r.0.0) p, ap (λ (r : (Token × A) × Cursor Token). r.1) p)

  by_err : (o : Option A) (t : Token) (ts far k : List Token) → meant_by o t ts far ≡ Err k → (o ≡ None) × (further (t ∷ ts) far ≡ k)
  by_err None t ts far k e = (refl, cc)
  by_err (Some a) t ts far k e = absurd cc

  meant_reads : (ts far : List Token) (found : Token × A) (c : Cursor Token) → meant of (cursor ts far) ≡ Ok (found, c) → Reading (IsMeant of) N (cursor ts far) found c
  unfolding meant
  meant_reads [] far found c e = absurd cc
  meant_reads (t ∷ ts) far found c e =
      let i = by_ok (of t) t ts far found c e in
      record { read = t ∷ []; is = ap (λ (r : Cursor Token). t ∷ r.rest) i.2; phrase = record { means = ap of (sym i.1) ∙ i.0; one = ap (λ (z : Token). z ∷ []) i.1 }; far = inl (ap (λ (r : Cursor Token). r.far) (sym i.2)); shorter = omega (arith, ap (λ (r : Cursor Token). length r.far) i.2) }

  pub meant_is_refused : (ts far k : List Token) → meant of (cursor ts far) ≡ Err k → further ts far ≡ k
  unfolding meant
  meant_is_refused [] far k e = cc
  meant_is_refused (t ∷ ts) far k e = (by_err (of t) t ts far k e).1

  meant_fails : (c : Cursor Token) (k : List Token) → meant of c ≡ Err k → Refusal (IsMeant of) N c k
  meant_fails c k e =
      subst (λ (z : List Token). Refusal (IsMeant of) N c z) (meant_is_refused c.rest c.far k e)
      (refused_at (IsMeant of) N c c.rest (record { read = []; more = witness ∷ []; whole = (witness, value); is = refl; phrase = λ tail h. record { means = stands; one = refl } }) (omega arith))

  meant_local_ok : (found : Token × A) (u z y x k d : List Token) → meant of (cursor (u ++ k) (z ++ k)) ≡ Ok (found, cursor (y ++ k) (x ++ k)) → meant of (cursor (u ++ d) (z ++ d)) ≡ Ok (found, cursor (y ++ d) (x ++ d))
  unfolding meant
  meant_local_ok found [] z y x k d e =
      let r = meant_reads k (z ++ k) found (cursor (y ++ k) (x ++ k)) e in
      absurd (omega (arith, ap length r.is, length-append r.read (y ++ k), length-append y k, ap length r.phrase.one))
  meant_local_ok found (t ∷ u) z y x k d e =
      let i = by_ok (of t) t (u ++ k) (z ++ k) found (cursor (y ++ k) (x ++ k)) e in
      let uy : u ≡ y = append_cancel_right u y k (ap (λ (q : Cursor Token). q.rest) i.2) in
      let zx : z ≡ x = append_cancel_right z x k (ap (λ (q : Cursor Token). q.far) i.2) in
      let here : meant_by (of t) t (u ++ d) (z ++ d) ≡ Ok ((t, found.1), cursor (u ++ d) (z ++ d)) = rw i.0 refl in
      here ∙ ap (λ (q : Token). Ok ((q, found.1), cursor (u ++ d) (z ++ d))) i.1 ∙ ap (λ (q : List Token). Ok (found, cursor (q ++ d) (z ++ d))) uy ∙ ap (λ (q : List Token). Ok (found, cursor (y ++ d) (q ++ d))) zx

  meant_local_err : (u z x k d : List Token) → 0 < length x → meant of (cursor (u ++ k) (z ++ k)) ≡ Err (x ++ k) → meant of (cursor (u ++ d) (z ++ d)) ≡ Err (x ++ d)
  unfolding meant
  meant_local_err [] z x k d pos e =
      let i = meant_is_refused k (z ++ k) (x ++ k) e in
      absurd (omega (arith, pos, ap length i, (further_short k (z ++ k)).0, length-append x k))
  meant_local_err (t ∷ u) z x k d pos e =
      let i = by_err (of t) t (u ++ k) (z ++ k) (x ++ k) e in
      let here : meant_by (of t) t (u ++ d) (z ++ d) ≡ Err (further (t ∷ u ++ d) (z ++ d)) = rw i.0 refl in
      here ∙ ap Err (mark_moves (t ∷ u) z x k d i.1)

  meant_complete : (found : Token × A) (u rest far : List Token) → IsMeant of found u rest → Accepted (meant of) found u rest far
  unfolding meant
  meant_complete found u rest far l = record { far' = far; is = rw (l.one, l.means) refl }

  pub meant_correct : Correct (meant of) (IsMeant of) Any N
  meant_correct = record {
    sound = λ c a c' t e. meant_reads c.rest c.far a c' e;
    complete = λ a u rest far t l g. meant_complete a u rest far l;
    failed = λ c k t e. meant_fails c k e;
    local_ok = λ a u z y x k d t pos e. meant_local_ok a u z y x k d e;
    local_err = λ u z x k d t pos e. meant_local_err u z x k d pos e;
  }
