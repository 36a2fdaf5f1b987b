-- Parts that may be absent, and phrases behind lines.
use Rattle.std.proofs.Common.{◌≡◌, Bool, true, false, List, [], ◌∷◌, ◌++◌, refl, sym, ap, ◌∙◌, append_assoc}
use Rattle.kt_grammar_parsers.specs.Parsers.{Cursor, Parser, cursor, first, ◌>>◌, token, skip, on, attempt}
use Rattle.kt_grammar_parsers.specs.Phrases.{IsToken, IsSkipped, Seq, NotReads, FirstOf}
use Rattle.kt_grammar_parsers.proofs.Ends.{tied_move}
use Rattle.kt_grammar_parsers.proofs.Correct.{Correct, below, correct, same_parser}
use Rattle.kt_grammar_parsers.proofs.Bind.{bind_correct}
use Rattle.kt_grammar_parsers.proofs.Steps.{Any, token_correct}
use Rattle.kt_grammar_parsers.proofs.Skip.{skip_correct}
use Rattle.kt_grammar_parsers.proofs.On.{Phrase}
use Rattle.kt_grammar_parsers.proofs.Attempt.{attempt_correct}
use Rattle.kt_grammar_parsers.proofs.Forms.{NoneOf}

-- no phrase stands where its first token doesn't
pub not_reads : {T A : Type 0} (test : T → Bool) (K : A → List T → List T → Type 0) → ((a : A) (u rest : List T) → K a u rest → first test (u ++ rest) ≡ true) → (ts : List T) → first test ts ≡ false → NotReads K ts
not_reads test K begins ts h a u rest is l = let e : true ≡ false = sym (begins a u rest l) ∙ ap (first test) (sym is) ∙ h in absurd cc

pub token_begins : {T : Type 0} (test : T → Bool) (t : T) (u rest : List T) → IsToken test t u rest → first test (u ++ rest) ≡ true
token_begins {T} test t u rest l = ap (λ (z : List T). first test (z ++ rest)) l.one ∙ l.passes

pub seq_begins : {T A B : Type 0} (test : T → Bool) (L : A → List T → List T → Type 0) (M : A → B → List T → List T → Type 0) (value : Bool) → ((a : A) (u rest : List T) → L a u rest → first test (u ++ rest) ≡ value) → (b : B) (u rest : List T) → Seq L M b u rest → first test (u ++ rest) ≡ value
seq_begins {T} test L M value begins b u rest s = ap (first test) (ap (λ (z : List T). z ++ rest) s.is ∙ append_assoc s.front s.back rest) ∙ begins s.value s.front (s.back ++ rest) s.phrase

by_token : {T B : Type 0} (test : T → Bool) (go : T → Parser T B) (other : Parser T B) (t : T) (ts far : List T) → (b : Bool) → test t ≡ b → on test go other (cursor (t ∷ ts) far) ≡ attempt (token test) go other (cursor (t ∷ ts) far)
unfolding on attempt token
by_token test go other t ts far true e = rw e refl
by_token test go other t ts far false e = rw e refl

by_tokens : {T B : Type 0} (test : T → Bool) (go : T → Parser T B) (other : Parser T B) (ts far : List T) → on test go other (cursor ts far) ≡ attempt (token test) go other (cursor ts far)
unfolding on attempt token
by_tokens test go other [] far = refl
by_tokens test go other (t ∷ ts) far = by_token test go other t ts far (test t) refl

-- a choice by the next token is an attempt at that token
pub on_is_attempt : {T B : Type 0} (test : T → Bool) (go : T → Parser T B) (other : Parser T B) (c : Cursor T) → on test go other c ≡ attempt (token test) go other c
on_is_attempt test go other c = by_tokens test go other c.rest c.far

-- a part that a token begins
pub where_token_correct : {T B : Type 0} (test : T → Bool) (witness : T) (passes : test witness ≡ true) (go : T → Parser T B) (other : Parser T B) (L : T → B → List T → List T → Type 0) (M : B → List T → List T → Type 0) (N : B → List T → Type 0)
    → ((t : T) → Correct (go t) (L t) Any N) → Correct other M Any N → ((t : T) → test t ≡ true → Phrase (L t) N) → Correct (on test go other) (FirstOf (IsToken test) L M) Any N
where_token_correct test witness passes go other L M N P Q some =
    correct (on test go other) (FirstOf (IsToken test) L M) Any N (λ n. same_parser n (attempt (token test) go other) (on test go other) (FirstOf (IsToken test) L M) Any N (λ c t. on_is_attempt test go other c) tied_move
    (below n (attempt (token test) go other) (FirstOf (IsToken test) L M) Any N
    (attempt_correct (token test) go other (IsToken test) L M Any Any N (token_correct test witness passes Any Any) P Q
    (λ t u l. let s = some t (l [] tt).passes in record { whole = s.whole; tokens = s.tokens; phrase = λ tail h. (s.phrase tail h, tt) }))))

-- a phrase behind lines, which doesn't begin with one
pub past_correct : {T A : Type 0} (line : T → Bool) (p : Parser T A) (L : A → List T → List T → Type 0) (N : A → List T → Type 0) → Correct p L Any N → Phrase L N → ((a : A) (u rest : List T) → L a u rest → first line (u ++ rest) ≡ false)
    → Correct (skip line >> p) (Seq (IsSkipped line) (λ _. L)) Any N
past_correct line p L N P some no_line = bind_correct (skip line) (λ _. p) (IsSkipped line) (λ _. L) Any (NoneOf line) Any N (skip_correct line Any (NoneOf line) (λ rest h. h)) (λ _. P) (λ a b u rest l h. tt)
    (λ a u l. record { whole = some.whole; tokens = some.tokens; phrase = λ tail h. let q = some.phrase tail h in (q, no_line some.whole some.tokens tail q) })
