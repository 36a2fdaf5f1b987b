-- Parts that a token begins and that may be absent.
use Rattle.std.proofs.Common.{◌≡◌, Bool, true, false, List, [], ◌∷◌, ◌++◌, Option, None, Some, refl, inl, inr}
use Rattle.kt_tree.specs.declared.tokens.Token.{Token}
use Rattle.kt_grammar_parsers.specs.Parsers.{Parser, first, ◌>>=◌, pure, on}
use Rattle.kt_grammar_parsers.specs.Phrases.{IsNothing, IsToken, Seq, FirstOf, WhereRoom}
use Rattle.kt_grammar.specs.Words.{Maybe}
use Rattle.kt_grammar.specs.Readers.{on_if, maybe}
use Rattle.kt_grammar_parsers.proofs.Correct.{Correct, below, correct}
use Rattle.kt_grammar_parsers.proofs.Steps.{Any}
use Rattle.kt_grammar_parsers.proofs.Forms.{if_true, if_false}
use Rattle.kt_grammar_parsers.proofs.Optional.{not_reads, token_begins, where_token_correct}
use Rattle.kt_grammar.proofs.parts.Sequences.{Part, Anything, phrase_of, then, made}

-- a part that is empty where Stop holds
abbrev pub ending : {T A : Type 0} {p : Parser T A} {M : A → List T → List T → Type 0} {Stop : List T → Type 0} (a : A) → Correct p M Any (λ _. Stop) → ((tail : List T) → Stop tail → M a [] tail) → Part p M Stop (λ _. Stop)
ending a C stop = record { correct = C; whole = a; tokens = []; phrase = λ tail h. (stop tail h, h) }

-- what a token begins, where it stands, else what is empty
pub on_where_part : {T B : Type 0} {go : T → Parser T B} {other : Parser T B} {L : T → B → List T → List T → Type 0} {M : B → List T → List T → Type 0} {F : List T → Type 0} {N : B → List T → Type 0} (test : T → Bool) (witness : T) → test witness ≡ true
    → ((t : T) → Part (go t) (L t) Anything N) → (Q : Part other M F N) → ((tail : List T) → N Q.whole tail → first test (Q.tokens ++ tail) ≡ false) → Part (on test go other) (FirstOf (IsToken test) L M) F N
on_where_part {go = go} {other = other} {L = L} {M = M} {N = N} test witness passes P Q absent = record {
  correct = where_token_correct test witness passes go other L M N (λ t. (P t).correct) Q.correct (λ t h. phrase_of (P t));
  whole = Q.whole;
  tokens = Q.tokens;
  phrase = λ tail h. let q = Q.phrase tail h in (inr (q.0, not_reads test (IsToken test) (token_begins test) (Q.tokens ++ tail) (absent tail h)), q.1);
}

-- the same, where there is room for it
pub on_room_part : {B : Type 0} {go : Token → Parser Token B} {other : Parser Token B} {L : Token → B → List Token → List Token → Type 0} {M : B → List Token → List Token → Type 0} {F : List Token → Type 0} {N : B → List Token → Type 0} (b : Bool) (test : Token → Bool) (witness : Token) → test witness ≡ true
    → (b ≡ true → (t : Token) → Part (go t) (L t) Anything N) → (Q : Part other M F N) → ((tail : List Token) → N Q.whole tail → first test (Q.tokens ++ tail) ≡ false) → Part (on_if b test go other) (WhereRoom b (IsToken test) L M) F N
on_room_part {go = go} {other = other} {L = L} {M = M} {F = F} {N = N} true test witness passes P Q absent =
    let W : Part (on test go other) (FirstOf (IsToken test) L M) F N = on_where_part test witness passes (P refl) Q absent in
    record {
      correct = correct (on test go other) (WhereRoom true (IsToken test) L M) Any N (λ n. if_true n (on test go other) (FirstOf (IsToken test) L M) M Any N (below n (on test go other) (FirstOf (IsToken test) L M) Any N W.correct));
      whole = W.whole;
      tokens = W.tokens;
      phrase = λ tail h. let q = W.phrase tail h in (inl (refl, q.0), q.1);
    }
on_room_part {go = go} {other = other} {L = L} {M = M} {F = F} {N = N} false test witness passes P Q absent = record {
  correct = correct other (WhereRoom false (IsToken test) L M) Any N (λ n. if_false n other (FirstOf (IsToken test) L M) M Any N (below n other M Any N Q.correct));
  whole = Q.whole;
  tokens = Q.tokens;
  phrase = λ tail h. let q = Q.phrase tail h in (inr (refl, q.0), q.1);
}

-- the same, where what goes on without it says what it begins with
pub on_room_before : {B : Type 0} {go : Token → Parser Token B} {other : Parser Token B} {L : Token → B → List Token → List Token → Type 0} {M : B → List Token → List Token → Type 0} {F : List Token → Type 0} {N : B → List Token → Type 0} (b : Bool) (test : Token → Bool) (witness : Token) → test witness ≡ true
    → (b ≡ true → (t : Token) → Part (go t) (L t) Anything N) → Part other M F N → ((ts : List Token) → F ts → first test ts ≡ false) → Part (on_if b test go other) (WhereRoom b (IsToken test) L M) F N
on_room_before b test witness passes P Q absent = on_room_part b test witness passes P Q (λ tail h. absent (Q.tokens ++ tail) (Q.phrase tail h).1)

-- a part behind a token that may be absent
pub maybe_part : {A : Type 0} {p : Parser Token A} {L : A → List Token → List Token → Type 0} {Stop : List Token → Type 0} (test : Token → Bool) (witness : Token) → test witness ≡ true → Part p L Anything (λ _. Stop) → ((tail : List Token) → Stop tail → first test tail ≡ false) → Part (maybe test p) (Maybe test L) Stop (λ _. Stop)
maybe_part test witness passes P absent = on_where_part test witness passes (λ t. then P (λ a. made (Some a) (λ tail h. h))) (made None (λ tail h. h)) absent
