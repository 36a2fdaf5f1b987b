-- When a parser reads exactly a language, and refuses where nothing can go on.
use Rattle.std.proofs.Common.{◌≡◌, ℕ, suc, ◌≤◌, ◌<◌, List, ◌++◌, length, Ok, Err, refl, sym, ◌∙◌, arith, inl, inr, ◌⊎◌}
use Rattle.kt_grammar_parsers.specs.Parsers.{Cursor, Outcome, Parser, cursor, and_then}
use Rattle.kt_grammar_parsers.proofs.Ends.{Tied}

-- The tokens up to k begin a phrase: with some more tokens they are one, whatever follows that N allows.
pub record Begun {T A : Type 0} (L : A → List T → List T → Type 0) (N : A → List T → Type 0) (ts k : List T) : Type 0 where
  pub read : List T
  pub more : List T
  pub whole : A
  pub is : ts ≡ read ++ k
  pub phrase : (tail : List T) → N whole tail → L whole (read ++ more) tail

-- What was read is a phrase, and is one with anything in place of the tokens that were not examined.
pub record Reading {T A : Type 0} (L : A → List T → List T → Type 0) (N : A → List T → Type 0) (c : Cursor T) (a : A) (c' : Cursor T) : Type 0 where
  pub read : List T
  pub is : c.rest ≡ read ++ c'.rest
  pub phrase : L a read c'.rest
  pub far : (c'.far ≡ c.far) ⊎ Begun L N c.rest c'.far
  pub shorter : length c'.far ≤ length c.far

pub record Refusal {T A : Type 0} (L : A → List T → List T → Type 0) (N : A → List T → Type 0) (c : Cursor T) (k : List T) : Type 0 where
  pub far : (k ≡ c.far) ⊎ Begun L N c.rest k
  pub shorter : length k ≤ length c.far
  pub inside : length k ≤ length c.rest

pub record Accepted {T A : Type 0} (p : Parser T A) (a : A) (u rest far : List T) : Type 0 where
  pub far' : List T
  pub is : p (cursor (u ++ rest) far) ≡ Ok (a, cursor rest far')

-- On fewer than n tokens. G is what may follow where a phrase is whole, and N what may follow one that was completed. What
-- was read, and that it was read so, depends on no token behind the furthest examined one.
pub record Below {T A : Type 0} (n : ℕ) (p : Parser T A) (L : A → List T → List T → Type 0) (G N : A → List T → Type 0) : Type 0 where
  pub sound : (c : Cursor T) (a : A) (c' : Cursor T) → length c.rest < n → Tied c → p c ≡ Ok (a, c') → Reading L N c a c'
  pub complete : (a : A) (u rest far : List T) → length (u ++ rest) < n → Tied (cursor (u ++ rest) far) → L a u rest → G a rest → Accepted p a u rest far
  pub failed : (c : Cursor T) (k : List T) → length c.rest < n → Tied c → p c ≡ Err k → Refusal L N c k
  pub local_ok : (a : A) (u z y x k d : List T) → length (u ++ k) < n → Tied (cursor (u ++ k) (z ++ k)) → 0 < length x → p (cursor (u ++ k) (z ++ k)) ≡ Ok (a, cursor (y ++ k) (x ++ k)) → p (cursor (u ++ d) (z ++ d)) ≡ Ok (a, cursor (y ++ d) (x ++ d))
  pub local_err : (u z x k d : List T) → length (u ++ k) < n → Tied (cursor (u ++ k) (z ++ k)) → 0 < length x → p (cursor (u ++ k) (z ++ k)) ≡ Err (x ++ k) → p (cursor (u ++ d) (z ++ d)) ≡ Err (x ++ d)

-- on any number of tokens
pub record Correct {T A : Type 0} (p : Parser T A) (L : A → List T → List T → Type 0) (G N : A → List T → Type 0) : Type 0 where
  pub sound : (c : Cursor T) (a : A) (c' : Cursor T) → Tied c → p c ≡ Ok (a, c') → Reading L N c a c'
  pub complete : (a : A) (u rest far : List T) → Tied (cursor (u ++ rest) far) → L a u rest → G a rest → Accepted p a u rest far
  pub failed : (c : Cursor T) (k : List T) → Tied c → p c ≡ Err k → Refusal L N c k
  pub local_ok : (a : A) (u z y x k d : List T) → Tied (cursor (u ++ k) (z ++ k)) → 0 < length x → p (cursor (u ++ k) (z ++ k)) ≡ Ok (a, cursor (y ++ k) (x ++ k)) → p (cursor (u ++ d) (z ++ d)) ≡ Ok (a, cursor (y ++ d) (x ++ d))
  pub local_err : (u z x k d : List T) → Tied (cursor (u ++ k) (z ++ k)) → 0 < length x → p (cursor (u ++ k) (z ++ k)) ≡ Err (x ++ k) → p (cursor (u ++ d) (z ++ d)) ≡ Err (x ++ d)

pub below : {T A : Type 0} (n : ℕ) (p : Parser T A) (L : A → List T → List T → Type 0) (G N : A → List T → Type 0) → Correct p L G N → Below n p L G N
below n p L G N C = record {
  sound = λ c a c' h t e. C.sound c a c' t e;
  complete = λ a u rest far h t l g. C.complete a u rest far t l g;
  failed = λ c k h t e. C.failed c k t e;
  local_ok = λ a u z y x k d h t pos e. C.local_ok a u z y x k d t pos e;
  local_err = λ u z x k d h t pos e. C.local_err u z x k d t pos e;
}

pub correct : {T A : Type 0} (p : Parser T A) (L : A → List T → List T → Type 0) (G N : A → List T → Type 0) → ((n : ℕ) → Below n p L G N) → Correct p L G N
correct p L G N B = record {
  sound = λ c a c' t e. (B (suc (length c.rest))).sound c a c' (omega arith) t e;
  complete = λ a u rest far t l g. (B (suc (length (u ++ rest)))).complete a u rest far (omega arith) t l g;
  failed = λ c k t e. (B (suc (length c.rest))).failed c k (omega arith) t e;
  local_ok = λ a u z y x k d t pos e. (B (suc (length (u ++ k)))).local_ok a u z y x k d (omega arith) t pos e;
  local_err = λ u z x k d t pos e. (B (suc (length (u ++ k)))).local_err u z x k d (omega arith) t pos e;
}

-- what a phrase of the first is completed to
pub record Completion {T A B : Type 0} (G : A → List T → Type 0) (a : A) (M : B → List T → List T → Type 0) (N : B → List T → Type 0) : Type 0 where
  pub whole : B
  pub tokens : List T
  pub phrase : (tail : List T) → N whole tail → M whole tokens tail × G a (tokens ++ tail)

-- ---- the same parser; a language that has the same phrases where they may stand

pub same_parser : {T A : Type 0} (n : ℕ) (p q : Parser T A) (L : A → List T → List T → Type 0) (G N : A → List T → Type 0) → ((c : Cursor T) → Tied c → q c ≡ p c) → ((u z k d : List T) → Tied (cursor (u ++ k) (z ++ k)) → Tied (cursor (u ++ d) (z ++ d))) → Below n p L G N → Below n q L G N
same_parser n p q L G N e move B = record {
  sound = λ c a c' h t o. B.sound c a c' h t (sym (e c t) ∙ o);
  complete = λ a u rest far h t l g. let x = B.complete a u rest far h t l g in record { far' = x.far'; is = e (cursor (u ++ rest) far) t ∙ x.is };
  failed = λ c k h t o. B.failed c k h t (sym (e c t) ∙ o);
  local_ok = λ a u z y x k d h t pos o. e (cursor (u ++ d) (z ++ d)) (move u z k d t) ∙ B.local_ok a u z y x k d h t pos (sym (e (cursor (u ++ k) (z ++ k)) t) ∙ o);
  local_err = λ u z x k d h t pos o. e (cursor (u ++ d) (z ++ d)) (move u z k d t) ∙ B.local_err u z x k d h t pos (sym (e (cursor (u ++ k) (z ++ k)) t) ∙ o);
}

module _ {T A : Type 0} (L L' : A → List T → List T → Type 0) (N N' : A → List T → Type 0) (to : (a : A) (u rest : List T) → L a u rest → L' a u rest) (ends : (a : A) (rest : List T) → N' a rest → N a rest) where
  pub begun_to : (ts k : List T) → Begun L N ts k → Begun L' N' ts k
  begun_to ts k r = record { read = r.read; more = r.more; whole = r.whole; is = r.is; phrase = λ tail h. to r.whole (r.read ++ r.more) tail (r.phrase tail (ends r.whole tail h)) }

  pub far_to : (far ts k : List T) → (k ≡ far) ⊎ Begun L N ts k → (k ≡ far) ⊎ Begun L' N' ts k
  far_to far ts k (inl e) = inl e
  far_to far ts k (inr r) = inr (begun_to ts k r)

  pub reading_to : (c : Cursor T) (a : A) (c' : Cursor T) → Reading L N c a c' → Reading L' N' c a c'
  reading_to c a c' x = record { read = x.read; is = x.is; phrase = to a x.read c'.rest x.phrase; far = far_to c.far c.rest c'.far x.far; shorter = x.shorter }

  pub refusal_to : (c : Cursor T) (k : List T) → Refusal L N c k → Refusal L' N' c k
  refusal_to c k x = record { far = far_to c.far c.rest k x.far; shorter = x.shorter; inside = x.inside }

pub same_language : {T A : Type 0} (n : ℕ) (p : Parser T A) (L L' : A → List T → List T → Type 0) (G G' N N' : A → List T → Type 0)
    → ((a : A) (u rest : List T) → L a u rest → L' a u rest) → ((a : A) (u rest : List T) → L' a u rest → G' a rest → L a u rest)
    → ((a : A) (rest : List T) → G' a rest → G a rest) → ((a : A) (rest : List T) → N' a rest → N a rest) → Below n p L G N → Below n p L' G' N'
same_language n p L L' G G' N N' to from goes ends B = record {
  sound = λ c a c' h t o. reading_to L L' N N' to ends c a c' (B.sound c a c' h t o);
  complete = λ a u rest far h t l g. B.complete a u rest far h t (from a u rest l g) (goes a rest g);
  failed = λ c k h t o. refusal_to L L' N N' to ends c k (B.failed c k h t o);
  local_ok = B.local_ok;
  local_err = B.local_err;
}

-- ---- outcomes

pub then_ok : {T A B : Type 0} (o : Outcome T A) (go : A → Parser T B) (y : B × Cursor T) → and_then o go ≡ Ok y → (x : A × Cursor T) × (o ≡ Ok x) × (go x.0 x.1 ≡ Ok y)
then_ok (Ok x) go y e = (x, refl, e)
then_ok (Err k) go y e = absurd cc

pub then_err : {T A B : Type 0} (o : Outcome T A) (go : A → Parser T B) (k : List T) → and_then o go ≡ Err k → (o ≡ Err k) ⊎ ((x : A × Cursor T) × (o ≡ Ok x) × (go x.0 x.1 ≡ Err k))
then_err (Ok x) go k e = inr (x, refl, e)
then_err (Err d) go k e = inl cc

pub which : {T A : Type 0} (o : Outcome T A) → ((x : A × Cursor T) × (o ≡ Ok x)) ⊎ ((k : List T) × (o ≡ Err k))
which (Ok x) = inl (x, refl)
which (Err k) = inr (k, refl)

pub not_both : {T A : Type 0} (o : Outcome T A) (x : A × Cursor T) (k : List T) → o ≡ Ok x → o ≡ Err k → ⊥
not_both (Ok y) x k e f = absurd cc
not_both (Err d) x k e f = absurd cc
