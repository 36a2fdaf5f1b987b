-- Choices between parts, and parts behind line ends.
use Rattle.std.proofs.Common.{
  ◌≡◌,
  Bool,
  true,
  false,
  List,
  [],
  ◌∷◌,
  ◌++◌,
  length,
  length-append,
  ◌<◌,
  arith,
  refl,
  sym,
  ap,
  subst,
  ◌∙◌,
  append_assoc,
  inl,
  inr,
  ◌⊎◌,
}
use Rattle.kt_tree.specs.declared.tokens.Token.{Token}
use Rattle.kt_grammar.specs.Readers.{on_if}
use Rattle.kt_grammar_parsers.specs.Parsers.{Parser, first, ◌>>=◌, ◌>>◌, pure, skip, on, attempt, attempt_if, repeat}
use Rattle.kt_grammar_parsers.specs.Phrases.{
  IsNothing,
  IsToken,
  IsSkipped,
  Seq,
  Either,
  NotReads,
  FirstOf,
  WhereRoom,
  Loop,
  ends,
}
use Rattle.kt_grammar_parsers.proofs.Correct.{Correct, below, correct, same_language}
use Rattle.kt_grammar_parsers.proofs.Steps.{Any, truth}
use Rattle.kt_grammar_parsers.proofs.On.{on_correct}
use Rattle.kt_grammar_parsers.proofs.Attempt.{attempt_correct}
use Rattle.kt_grammar_parsers.proofs.Optional.{seq_begins}
use Rattle.kt_grammar.proofs.parts.Sequences.{Part, Anything, phrase_of, past, then, made, room_part, loop_part}

-- the same phrases, by another grammar
pub same_part : {T B : Type 0} {p : Parser T B} {L M : B → List T → List T → Type 0} {F : List T → Type 0} {N : B → List T → Type 0} → ((b : B) (u rest : List T) → L b u rest → M b u rest) → ((b : B) (u rest : List T) → M b u rest → L b u rest) → Part p L F N → Part p M F N
same_part {p = p} {L = L} {M = M} {N = N} to from P = record {
  correct = correct p M Any N (λ n. same_language n p L M Any Any N N to (λ b u rest m g. from b u rest m) (λ b rest g. g) (λ b rest h. h) (below n p L Any N P.correct));
  whole = P.whole;
  tokens = P.tokens;
  phrase = λ tail h. let q = P.phrase tail h in (to P.whole P.tokens tail q.0, q.1);
}

-- ---- behind line ends

module _ {T A B C : Type 0} (K : A → List T → List T → Type 0) (L : A → B → List T → List T → Type 0) (M : B → C → List T → List T → Type 0) where
  pub seq_left : (c : C) (u rest : List T) → Seq K (λ a. Seq (L a) M) c u rest → Seq (Seq K L) M c u rest
  seq_left c u rest s =
      let q = s.phrase' in
      record {
        value = q.value;
        front = s.front ++ q.front;
        back = q.back;
        is = s.is ∙ ap (λ (z : List T). s.front ++ z) q.is ∙ sym (append_assoc s.front q.front q.back);
        phrase = record { value = s.value; front = s.front; back = q.front; is = refl; phrase = subst (λ (z : List T). K s.value s.front z) (ap (λ (z : List T). z ++ rest) q.is ∙ append_assoc q.front q.back rest) s.phrase; phrase' = q.phrase };
        phrase' = q.phrase';
      }

  pub seq_right : (c : C) (u rest : List T) → Seq (Seq K L) M c u rest → Seq K (λ a. Seq (L a) M) c u rest
  seq_right c u rest s =
      let q = s.phrase in
      record {
        value = q.value;
        front = q.front;
        back = q.back ++ s.back;
        is = s.is ∙ ap (λ (z : List T). z ++ s.back) q.is ∙ append_assoc q.front q.back s.back;
        phrase = subst (λ (z : List T). K q.value q.front z) (sym (append_assoc q.back s.back rest)) q.phrase;
        phrase' = record { value = s.value; front = q.back; back = s.back; is = refl; phrase = q.phrase'; phrase' = s.phrase' };
      }

-- a part behind line ends, and what goes on with it
pub past_then : {T A B : Type 0} {line : T → Bool} {p : Parser T A} {go : A → Parser T B} {L : A → List T → List T → Type 0} {M : A → B → List T → List T → Type 0} {F F' : List T → Type 0} {N : B → List T → Type 0}
    → ((a : A) (u rest : List T) → L a u rest → first line (u ++ rest) ≡ false) → Part p L F (λ _. F') → ((a : A) → Part (go a) (M a) F' N) → Part (skip line >> (p >>= go)) (Seq (Seq (IsSkipped line) (λ _. L)) M) F N
past_then {line = line} {L = L} {M = M} no_line P Q = same_part (seq_left (IsSkipped line) (λ _. L) M) (seq_right (IsSkipped line) (λ _. L) M) (past (λ b u rest s. seq_begins line L M false no_line b u rest s) (then P Q))

-- ---- as long as an operator follows and there is room

module _ {T O S : Type 0} (room : S → Bool) (operator : Parser T O) (K : O → List T → List T → Type 0) (go : O → S → Parser T (S ⊎ S)) (Go : O → S → S ⊎ S → List T → List T → Type 0) where
  abbrev pub turn : S → Parser T (S ⊎ S)
  turn a = attempt_if (room a) operator (λ o. go o a) (pure (inr a))

  abbrev pub Turn : S → S ⊎ S → List T → List T → Type 0
  Turn a = WhereRoom (room a) K (λ o. Go o a) (IsNothing (inr a))

  turn_eats : ((o : O) (u rest : List T) → K o u rest → 0 < length u) → (a b : S) (u rest : List T) → Turn a (inl b) u rest → 0 < length u
  turn_eats eats a b u rest (inl x) = elim x.1 [ inl s ↦ omega (arith, ap length s.is, length-append s.front s.back, eats s.value s.front (s.back ++ rest) s.phrase) | inr m ↦ absurd (let e : inl b ≡ inr a = m.0.value in cc) ]
  turn_eats eats a b u rest (inr x) = absurd (let e : inl b ≡ inr a = x.1.value in cc)

  turn_stops : (a : S) (tail : List T) → NotReads K tail → Turn a (inr a) [] tail
  turn_stops a tail h = elim (truth (room a)) [ inl y ↦ inl (y, inr (record { value = refl; none = refl }, h)) | inr n ↦ inr (n, record { value = refl; none = refl }) ]

  pub turns_stop : (a : S) (tail : List T) → NotReads K tail → Loop Turn a a [] tail
  turns_stop a tail h = ends (turn_stops a tail h)

  pub turns_part : {Stop F' : List T → Type 0} → Part operator K Anything (λ _. F') → ((o : O) (u rest : List T) → K o u rest → 0 < length u) → ((a : S) → room a ≡ true → (o : O) → Part (go o a) (Go o a) F' (λ _. Stop)) → ((tail : List T) → Stop tail → NotReads K tail) → (a : S) → Part (repeat turn a) (Loop Turn a) Stop (λ _. Stop)
  turns_part R eats P absent a = loop_part (λ x. (room_part (room x) R (P x) (made (inr x) (λ tail s. s)) absent).correct) (turn_eats eats) (λ x. x) (λ x tail h. turn_stops x tail (absent tail h)) a

-- one alone, or none
pub room_stops : {T A B : Type 0} {K : A → List T → List T → Type 0} {L : A → B → List T → List T → Type 0} (b : Bool) (x : B) (tail : List T) → NotReads K tail → WhereRoom b K L (IsNothing x) x [] tail
room_stops b x tail h = elim (truth b) [ inl y ↦ inl (y, inr (record { value = refl; none = refl }, h)) | inr n ↦ inr (n, record { value = refl; none = refl }) ]

pub room_goes : {T A B : Type 0} {K : A → List T → List T → Type 0} {L : A → B → List T → List T → Type 0} (M : B → List T → List T → Type 0) (b : Bool) (x : B) (tail : List T) → M x [] tail → NotReads K tail → WhereRoom b K L M x [] tail
room_goes M b x tail m h = elim (truth b) [ inl y ↦ inl (y, inr (m, h)) | inr n ↦ inr (n, m) ]

-- ---- one or the other

-- the first is tried, and the other begins with none of it
pub either_part : {T A B : Type 0} {r : Parser T A} {go : A → Parser T B} {other : Parser T B} {K : A → List T → List T → Type 0} {L : A → B → List T → List T → Type 0} {M : B → List T → List T → Type 0} {D F F' : List T → Type 0} {N : B → List T → Type 0}
    → Part r K D (λ _. F') → ((a : A) → Part (go a) (L a) F' N) → Part other M F N → ((b : B) (u rest : List T) → M b u rest → NotReads K (u ++ rest)) → Part (attempt r go other) (Either (Seq K L) M) F N
either_part {r = r} {go = go} {other = other} {K = K} {L = L} {M = M} {F' = F'} {N = N} R P Q apart = record {
  correct = correct (attempt r go other) (Either (Seq K L) M) Any N (λ n. same_language n (attempt r go other) (FirstOf K L M) (Either (Seq K L) M) Any Any N N
      (λ b u rest l. elim l [ inl s ↦ inl s | inr m ↦ inr m.0 ]) (λ b u rest l g. elim l [ inl s ↦ inl s | inr m ↦ inr (m, apart b u rest m) ]) (λ b rest g. g) (λ b rest h. h)
      (below n (attempt r go other) (FirstOf K L M) Any N
      (attempt_correct r go other K L M (λ _. F') Any N R.correct (λ a. (P a).correct) Q.correct (λ a u l. record { whole = (P a).whole; tokens = (P a).tokens; phrase = (P a).phrase }))));
  whole = Q.whole;
  tokens = Q.tokens;
  phrase = λ tail h. let q = Q.phrase tail h in (inr q.0, q.1);
}

-- there is none of the first
pub other_part : {T B : Type 0} {p : Parser T B} {L M : B → List T → List T → Type 0} {F : List T → Type 0} {N : B → List T → Type 0} → ((b : B) (u rest : List T) → L b u rest → ⊥) → Part p M F N → Part p (Either L M) F N
other_part {p = p} {L = L} {M = M} {N = N} none P = record {
  correct = correct p (Either L M) Any N (λ n. same_language n p M (Either L M) Any Any N N (λ b u rest m. inr m) (λ b u rest l g. elim l [ inl s ↦ absurd (none b u rest s) | inr m ↦ m ]) (λ b rest g. g) (λ b rest h. h) (below n p M Any N P.correct));
  whole = P.whole;
  tokens = P.tokens;
  phrase = λ tail h. let q = P.phrase tail h in (inr q.0, q.1);
}

-- a choice by the next token
pub on_part : {T B : Type 0} {test : T → Bool} {go : T → Parser T B} {other : Parser T B} {L : T → B → List T → List T → Type 0} {M : B → List T → List T → Type 0} {F : List T → Type 0} {N : B → List T → Type 0}
    (witness : T) → test witness ≡ true → ((t : T) → Part (go t) (L t) Anything N) → Part other M F N → ((b : B) (u rest : List T) → M b u rest → first test (u ++ rest) ≡ false) → Part (on test go other) (Either (Seq (IsToken test) L) M) F N
on_part {test = test} {go = go} {other = other} {L = L} {M = M} {N = N} witness passes P Q apart = record {
  correct = on_correct test witness passes go other L M Any N (λ t. (P t).correct) Q.correct (λ t h. phrase_of (P t)) (λ b u rest m g. apart b u rest m);
  whole = Q.whole;
  tokens = Q.tokens;
  phrase = λ tail h. let q = Q.phrase tail h in (inr q.0, q.1);
}

-- ---- where the parser asks whether there is room

pub attempt_if_part : {T A B : Type 0} {L : B → List T → List T → Type 0} {F : List T → Type 0} {N : B → List T → Type 0} (b : Bool) (r : Parser T A) (go : A → Parser T B) (other : Parser T B) → (b ≡ true → Part (attempt r go other) L F N) → (b ≡ false → Part other L F N) → Part (attempt_if b r go other) L F N
attempt_if_part true r go other deep flat = deep refl
attempt_if_part false r go other deep flat = flat refl

pub on_if_part : {B : Type 0} {L : B → List Token → List Token → Type 0} {F : List Token → Type 0} {N : B → List Token → Type 0} (b : Bool) (test : Token → Bool) (go : Token → Parser Token B) (other : Parser Token B) → (b ≡ true → Part (on test go other) L F N) → (b ≡ false → Part other L F N) → Part (on_if b test go other) L F N
on_if_part true test go other deep flat = deep refl
on_if_part false test go other deep flat = flat refl
