-- With which tokens parts behind line ends and tokens that stand for something begin; turns with several parts that may be absent.
use Rattle.std.proofs.Common.{
  ◌≡◌,
  ◌<◌,
  Bool,
  true,
  false,
  List,
  [],
  ◌∷◌,
  ◌++◌,
  length,
  Option,
  None,
  Some,
  refl,
  ap,
  ◌∙◌,
  arith,
  inl,
  inr,
  length-append,
}
use Rattle.kt_tree.specs.declared.tokens.Token.{Token}
use Rattle.kt_tree.specs.declared.tokens.TokenKind.{TokenKind}
use Rattle.kt_tree.specs.declared.tokens.TokenKind.TheVariants as kind
use Rattle.kt_tree.specs.Tokens.{is_new_line}
use Rattle.kt_grammar_parsers.specs.Parsers.{Parser, first, skip, ahead, attempt_if}
use Rattle.kt_grammar_parsers.specs.Phrases.{AllPass, IsSkipped, IsAhead, Seq, NotReads, If, WhereRoom}
use Rattle.kt_grammar.specs.Terminals.{Meaning}
use Rattle.kt_grammar.specs.Words.{Empty, IsMeant, IsPast}
use Rattle.kt_grammar_parsers.proofs.Steps.{Any, truth}
use Rattle.kt_grammar_parsers.proofs.Skip.{skip_correct}
use Rattle.kt_grammar_parsers.proofs.Forms.{ahead_correct}
use Rattle.kt_grammar.proofs.parts.Sequences.{Part, room_part}
use Rattle.kt_grammar.proofs.tokens.Distinct.{kind_new_line}
use Rattle.kt_grammar.proofs.tokens.Begins.{of_kind, Begins}

past_first : (test : TokenKind → Bool) → test kind.NewLine ≡ true → (front back : List Token) → AllPass is_new_line front → first (of_kind test) back ≡ true → first (of_kind test) (front ++ back) ≡ true
past_first test line [] back h b = b
past_first test line (t ∷ front) back h b = ap test (kind_new_line t.kind h.0) ∙ line

pub past_begins : {A : Type 0} {L : A → List Token → List Token → Type 0} (test : TokenKind → Bool) → test kind.NewLine ≡ true → Begins test L → Begins test (IsPast L)
past_begins test line begins a u rest s = ap (first (of_kind test)) s.is ∙ past_first test line s.front s.back s.phrase.pass (begins a s.back rest s.phrase')

some_is_not_none : {A : Type 0} (o : Option A) (a : A) → o ≡ Some a → o ≡ None → ⊥
some_is_not_none o a e f = absurd cc

pub meant_begins : {A : Type 0} (of : Meaning A) (test : TokenKind → Bool) → ((t : Token) → test t.kind ≡ false → of t ≡ None) → Begins test (IsMeant of)
meant_begins of test nothing found u rest l = ap (first (of_kind test)) l.one ∙ elim (truth (test found.0.kind)) [ inl y ↦ y | inr n ↦ absurd (some_is_not_none (of found.0) found.1 l.means (nothing found.0 n)) ]

-- a token that is only looked at
pub ahead_part : {F N : List Token → Type 0} (test : Token → Bool) → ((tail : List Token) → N tail → first test tail ≡ true) → ((tail : List Token) → N tail → F tail) → Part (ahead test) (IsAhead test) F (λ _. N)
ahead_part {N = N} test next asked = record { correct = ahead_correct test Any (λ _. N) next; whole = tt; tokens = []; phrase = λ tail h. (record { none = refl; next = next tail h }, asked tail h) }

-- ---- turns

pub seq_eats : {A B : Type 0} {K : A → List Token → List Token → Type 0} {L : A → B → List Token → List Token → Type 0} → ((a : A) (u rest : List Token) → K a u rest → 0 < length u) → (b : B) (u rest : List Token) → Seq K L b u rest → 0 < length u
seq_eats eats b u rest s = omega (arith, ap length s.is, length-append s.front s.back, eats s.value s.front (s.back ++ rest) s.phrase)

module _ {A B : Type 0} (K : A → List Token → List Token → Type 0) (L : A → B → List Token → List Token → Type 0) (M : B → List Token → List Token → Type 0) (room : Bool) where
  -- a turn eats where each of its parts does
  pub room_eats : (b : B) (u rest : List Token) → ((a : A) (v more : List Token) → K a v more → 0 < length v) → (M b u rest → 0 < length u) → WhereRoom room K L M b u rest → 0 < length u
  room_eats b u rest eats other (inl x) = elim x.1 [ inl s ↦ seq_eats eats b u rest s | inr m ↦ other m.0 ]
  room_eats b u rest eats other (inr x) = other x.1

-- a turn eats where what goes on does, and what goes on without it
pub turn_eats_by : {A B : Type 0} (K : A → List Token → List Token → Type 0) (L : A → B → List Token → List Token → Type 0) (M : B → List Token → List Token → Type 0) (room : Bool) (b : B) (u rest : List Token) → (Seq K L b u rest → 0 < length u) → (M b u rest → 0 < length u) → WhereRoom room K L M b u rest → 0 < length u
turn_eats_by K L M room b u rest eats other (inl x) = elim x.1 [ inl s ↦ eats s | inr m ↦ other m.0 ]
turn_eats_by K L M room b u rest eats other (inr x) = other x.1

-- a part that may be absent, and is where what goes on without it begins
pub room_before : {A B : Type 0} {r : Parser Token A} {go : A → Parser Token B} {other : Parser Token B} {K : A → List Token → List Token → Type 0} {L : A → B → List Token → List Token → Type 0} {M : B → List Token → List Token → Type 0} {D F F' : List Token → Type 0} {N : B → List Token → Type 0}
    (b : Bool) → Part r K D (λ _. F') → (b ≡ true → (a : A) → Part (go a) (L a) F' N) → Part other M F N → ((ts : List Token) → F ts → NotReads K ts) → Part (attempt_if b r go other) (WhereRoom b K L M) F N
room_before b R P Q absent = room_part b R P Q (λ tail h. absent (Q.tokens ++ tail) (Q.phrase tail h).1)

pub only_begins : {A : Type 0} {K : A → List Token → List Token → Type 0} (test : TokenKind → Bool) (b : Bool) → Begins test K → Begins test (If b K Empty)
only_begins test b begins a u rest (inl x) = begins a u rest x.1
only_begins test b begins a u rest (inr x) = absurd x.1

-- the line ends that stand there
pub lines_part : {N : List Token → Type 0} → ((tail : List Token) → N tail → first is_new_line tail ≡ false) → Part (skip is_new_line) (IsSkipped is_new_line) N (λ _. N)
lines_part {N = N} no_line = record { correct = skip_correct is_new_line Any (λ _. N) no_line; whole = tt; tokens = []; phrase = λ tail h. (record { pass = tt; all = no_line tail h }, h) }
