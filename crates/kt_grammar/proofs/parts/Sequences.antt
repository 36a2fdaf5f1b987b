-- Productions as chains of parts: a line for each sign, token or phrase.
use Rattle.std.proofs.Common.{
  ◌≡◌,
  ◌<◌,
  Bool,
  true,
  false,
  List,
  [],
  ◌∷◌,
  ◌++◌,
  length,
  refl,
  sym,
  ap,
  subst,
  ◌∙◌,
  append_assoc,
  arith,
  inl,
  inr,
  ◌⊎◌,
  length-append,
}
use Rattle.std.proofs.lemmas.List.{append-nil}
use Rattle.kt_tree.specs.declared.tokens.Token.{Token}
use Rattle.kt_grammar_parsers.specs.Parsers.{
  Parser,
  first,
  ◌>>=◌,
  ◌>>◌,
  pure,
  token,
  skip,
  on,
  attempt,
  attempt_if,
  repeat,
}
use Rattle.kt_grammar_parsers.specs.Phrases.{
  IsNothing,
  IsToken,
  AllPass,
  IsSkipped,
  Seq,
  Either,
  NotReads,
  FirstOf,
  If,
  WhereRoom,
  Loop,
  ends,
}
use Rattle.kt_grammar_parsers.proofs.Correct.{Below, Correct, Completion, below, correct, same_language}
use Rattle.kt_grammar_parsers.proofs.Bind.{bind_correct}
use Rattle.kt_grammar_parsers.proofs.Steps.{Any, truth, pure_correct, token_correct}
use Rattle.kt_grammar_parsers.proofs.Skip.{skip_correct}
use Rattle.kt_grammar_parsers.proofs.On.{Phrase, on_correct}
use Rattle.kt_grammar_parsers.proofs.Attempt.{attempt_correct}
use Rattle.kt_grammar_parsers.proofs.Repeat.{repeat_correct}
use Rattle.kt_grammar_parsers.proofs.Forms.{attempt_if_correct}
use Rattle.kt_grammar.proofs.tokens.Closing.{goes_on}
use Rattle.kt_grammar_parsers.proofs.Optional.{past_correct, seq_begins}

-- a parser that reads a language; one phrase of it, and what the tokens before that phrase may ask of it
pub record Part {T A : Type 0} (p : Parser T A) (L : A → List T → List T → Type 0) (F : List T → Type 0) (N : A → List T → Type 0) : Type 0 where
  pub correct : Correct p L Any N
  pub whole : A
  pub tokens : List T
  pub phrase : (tail : List T) → N whole tail → L whole tokens tail × F (tokens ++ tail)

-- nothing is asked
abbrev pub Anything : {T : Type 0} → List T → Type 0
Anything tail = Unit {0}

-- what may follow an expression that was completed
abbrev pub Closes : List Token → Type 0
Closes tail = first goes_on tail ≡ false

pub any_part : {T A : Type 0} {p : Parser T A} {L : A → List T → List T → Type 0} {F : List T → Type 0} {N : A → List T → Type 0} → Part p L F N → Part p L Anything N
any_part P = record { correct = P.correct; whole = P.whole; tokens = P.tokens; phrase = λ tail h. ((P.phrase tail h).0, tt) }

pub part_of : {T A : Type 0} {p : Parser T A} {L : A → List T → List T → Type 0} {N : A → List T → Type 0} → Correct p L Any N → Phrase L N → Part p L Anything N
part_of P s = record { correct = P; whole = s.whole; tokens = s.tokens; phrase = λ tail h. (s.phrase tail h, tt) }

pub phrase_of : {T A : Type 0} {p : Parser T A} {L : A → List T → List T → Type 0} {F : List T → Type 0} {N : A → List T → Type 0} → Part p L F N → Phrase L N
phrase_of P = record { whole = P.whole; tokens = P.tokens; phrase = λ tail h. (P.phrase tail h).0 }

-- a value made of what was read
abbrev pub made : {T A : Type 0} {F : List T → Type 0} {N : A → List T → Type 0} (a : A) → ((tail : List T) → N a tail → F tail) → Part (pure a) (IsNothing a) F N
made {N = N} a asked = record { correct = pure_correct a Any N; whole = a; tokens = []; phrase = λ tail h. (record { value = refl; none = refl }, asked tail h) }

-- one part, and what goes on with it
pub then : {T A B : Type 0} {p : Parser T A} {go : A → Parser T B} {L : A → List T → List T → Type 0} {M : A → B → List T → List T → Type 0} {F F' : List T → Type 0} {N : B → List T → Type 0}
    → Part p L F (λ _. F') → ((a : A) → Part (go a) (M a) F' N) → Part (p >>= go) (Seq L M) F N
then {p = p} {go = go} {L = L} {M = M} {F = F} {F' = F'} {N = N} P Q =
    let q = Q P.whole in
    record {
      correct = bind_correct p go L M Any (λ _. F') Any N P.correct (λ a. (Q a).correct) (λ a b u rest l h. tt) (λ a u l. record { whole = (Q a).whole; tokens = (Q a).tokens; phrase = (Q a).phrase });
      whole = q.whole;
      tokens = P.tokens ++ q.tokens;
      phrase = λ tail h.
          let m = q.phrase tail h in
          let l = P.phrase (q.tokens ++ tail) m.1 in
          (record { value = P.whole; front = P.tokens; back = q.tokens; is = refl; phrase = l.0; phrase' = m.0 }, subst F (sym (append_assoc P.tokens q.tokens tail)) l.1);
    }

-- a token
pub one : {T : Type 0} {F N : List T → Type 0} (test : T → Bool) (witness : T) → test witness ≡ true → ((tail : List T) → N tail → F (witness ∷ tail)) → Part (token test) (IsToken test) F (λ _. N)
one {N = N} test witness passes asked = record { correct = token_correct test witness passes (λ _. N) Any; whole = witness; tokens = witness ∷ []; phrase = λ tail h. (record { passes = passes; one = refl }, asked tail h) }

-- a phrase behind line ends
pub past : {T A : Type 0} {line : T → Bool} {p : Parser T A} {L : A → List T → List T → Type 0} {F : List T → Type 0} {N : A → List T → Type 0} → ((a : A) (u rest : List T) → L a u rest → first line (u ++ rest) ≡ false) → Part p L F N → Part (skip line >> p) (Seq (IsSkipped line) (λ _. L)) F N
past {line = line} {p = p} {L = L} {N = N} no_line P = record {
  correct = past_correct line p L N P.correct (phrase_of P) no_line;
  whole = P.whole;
  tokens = P.tokens;
  phrase = λ tail h. let q = P.phrase tail h in (record { value = tt; front = []; back = P.tokens; is = refl; phrase = record { pass = tt; all = no_line P.whole P.tokens tail q.0 }; phrase' = q.0 }, q.1);
}

-- a part that may be absent
pub where_part : {T A B : Type 0} {r : Parser T A} {go : A → Parser T B} {other : Parser T B} {K : A → List T → List T → Type 0} {L : A → B → List T → List T → Type 0} {M : B → List T → List T → Type 0} {D F F' : List T → Type 0} {N : B → List T → Type 0}
    → Part r K D (λ _. F') → ((a : A) → Part (go a) (L a) F' N) → (Q : Part other M F N) → ((tail : List T) → N Q.whole tail → NotReads K (Q.tokens ++ tail)) → Part (attempt r go other) (FirstOf K L M) F N
where_part {r = r} {go = go} {other = other} {K = K} {L = L} {M = M} {F' = F'} {N = N} R P Q absent = record {
  correct = attempt_correct r go other K L M (λ _. F') Any N R.correct (λ a. (P a).correct) Q.correct (λ a u l. record { whole = (P a).whole; tokens = (P a).tokens; phrase = (P a).phrase });
  whole = Q.whole;
  tokens = Q.tokens;
  phrase = λ tail h. let q = Q.phrase tail h in (inr (q.0, absent tail h), q.1);
}

-- the same, where there is room for it; the parser and the language ask for the same room
pub room_part : {T A B : Type 0} {r : Parser T A} {go : A → Parser T B} {other : Parser T B} {K : A → List T → List T → Type 0} {L : A → B → List T → List T → Type 0} {M : B → List T → List T → Type 0} {D F F' : List T → Type 0} {N : B → List T → Type 0}
    (b : Bool) → Part r K D (λ _. F') → (b ≡ true → (a : A) → Part (go a) (L a) F' N) → (Q : Part other M F N) → ((tail : List T) → N Q.whole tail → NotReads K (Q.tokens ++ tail)) → Part (attempt_if b r go other) (WhereRoom b K L M) F N
room_part {r = r} {go = go} {other = other} {K = K} {L = L} {M = M} {F' = F'} {N = N} b R P Q absent = record {
  correct = attempt_if_correct b r go other K L M (λ _. F') N (λ h. (where_part R (P h) Q absent).correct) Q.correct;
  whole = Q.whole;
  tokens = Q.tokens;
  phrase = λ tail h. let q = Q.phrase tail h in (elim (truth b) [ inl y ↦ inl (y, inr (q.0, absent tail h)) | inr n ↦ inr (n, q.0) ], q.1);
}

-- turns, each of which may be the last where Stop holds
pub loop_part : {T S B : Type 0} {turn : S → Parser T (S ⊎ B)} {Turn : S → S ⊎ B → List T → List T → Type 0} {Stop : List T → Type 0} → ((x : S) → Correct (turn x) (Turn x) Any (λ _. Stop)) → ((x y : S) (u rest : List T) → Turn x (inl y) u rest → 0 < length u)
    → (result : S → B) → ((x : S) (tail : List T) → Stop tail → Turn x (inr (result x)) [] tail) → (x : S) → Part (repeat turn x) (Loop Turn x) Stop (λ _. Stop)
loop_part {turn = turn} {Turn = Turn} {Stop = Stop} C eats result stop x = record {
  correct = repeat_correct turn Turn Any (λ _. Stop) Any (λ _. Stop) C eats (λ y b u rest l g. tt) (λ b rest g. tt) (λ b rest h. h) (λ z y u l. record { whole = result y; tokens = []; phrase = λ tail h. (ends (stop y tail h), h) }) x;
  whole = result x;
  tokens = [];
  phrase = λ tail h. (ends (stop x tail h), h);
}

-- where no line begins, a phrase behind lines is one
pub not_past : {T A : Type 0} (line : T → Bool) (K : A → List T → List T → Type 0) (ts : List T) → first line ts ≡ false → NotReads K ts → NotReads (Seq (IsSkipped line) (λ _. K)) ts
not_past {T} line K ts no_line misses a u rest is s = elim (whole s.front refl s.phrase.pass) [ inl e ↦ misses a s.back rest (is ∙ ap (λ (z : List T). z ++ rest) (s.is ∙ ap (λ (z : List T). z ++ s.back) e)) s.phrase' | inr e ↦ absurd e ]
  where
    whole : (front : List T) → s.front ≡ front → AllPass line front → (s.front ≡ []) ⊎ ⊥
    whole [] e h = inl e
    whole (t ∷ front) e h = inr (let is' : ts ≡ t ∷ (front ++ s.back) ++ rest = is ∙ ap (λ (z : List T). z ++ rest) (s.is ∙ ap (λ (z : List T). z ++ s.back) e) in let l : true ≡ false = sym h.0 ∙ sym (ap (first line) is') ∙ no_line in absurd cc)
