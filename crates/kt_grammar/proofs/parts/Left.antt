-- Forms over a part for which there may be no level left.
use Rattle.std.proofs.Common.{
  ◌≡◌,
  Bool,
  true,
  false,
  not,
  List,
  [],
  ◌∷◌,
  ◌++◌,
  Err,
  refl,
  sym,
  ap,
  subst,
  ◌∙◌,
  arith,
  inl,
  inr,
}
use Rattle.kt_tree.specs.declared.tokens.Token.{Token}
use Rattle.kt_tree.specs.declared.tokens.TokenKind.{TokenKind}
use Rattle.kt_grammar_parsers.specs.Parsers.{
  Cursor,
  Parser,
  cursor,
  further,
  first,
  ◌>>=◌,
  ◌>>◌,
  pure,
  token,
  skip,
  on,
  ahead,
  attempt,
  where_next,
  repeat,
  gap,
  item_turn,
  items,
  comma_list,
  maybe_comma_list,
}
use Rattle.kt_grammar_parsers.specs.Phrases.{
  IsNothing,
  IsToken,
  IsSkipped,
  IsAhead,
  IsGap,
  Seq,
  Either,
  NotReads,
  WhereNext,
  If,
  Loop,
  ends,
  ItemTurn,
  Items,
  CommaList,
  MaybeCommaList,
}
use Rattle.kt_grammar_parsers.proofs.Ends.{further_cases, further_first, tied_move}
use Rattle.kt_grammar_parsers.proofs.Correct.{Correct, below, correct, same_parser, same_language}
use Rattle.kt_grammar_parsers.proofs.Bind.{bind_correct}
use Rattle.kt_grammar_parsers.proofs.Steps.{Any, truth, pure_correct, token_correct}
use Rattle.kt_grammar_parsers.proofs.Skip.{skip_correct}
use Rattle.kt_grammar_parsers.proofs.On.{Phrase, on_correct}
use Rattle.kt_grammar_parsers.proofs.Repeat.{repeat_correct}
use Rattle.kt_grammar_parsers.proofs.Forms.{
  NoneOf,
  IsAbsent,
  absent,
  looked,
  absent_correct,
  items_correct,
  maybe_comma_list_correct,
}
use Rattle.kt_grammar.specs.Words.{Empty}
use Rattle.kt_grammar.specs.Readers.{on_if}
use Rattle.kt_grammar.proofs.parts.Sequences.{Part, Anything, phrase_of, then, where_part}
use Rattle.kt_grammar.proofs.parts.Firsts.{ahead_part}
use Rattle.kt_grammar.proofs.parts.Choices.{same_part, other_part, on_part}
use Rattle.kt_grammar.proofs.tokens.Begins.{of_kind, first_of_front, begins_no, begins_eats}
use Rattle.kt_grammar.proofs.parts.Below.{IsRead}

-- ---- a choice whose other side is empty

pub further_again : {T : Type 0} (a b : List T) → further a (further a b) ≡ further a b
further_again a b = elim (further_cases a b) [
  | inl f ↦ ap (further a) f.1 ∙ further_first a a (omega arith) ∙ sym f.1
  | inr f ↦ ap (further a) f.1
]

refused_again : {T B : Type 0} (other : Parser T B) → ((c : Cursor T) → other c ≡ Err (further c.rest c.far)) → (ts far : List T) → other (cursor ts (further ts far)) ≡ Err (further ts far)
refused_again other dead ts far = dead (cursor ts (further ts far)) ∙ ap Err (further_again ts far)

on_dead_at : {T B : Type 0} (test : T → Bool) (go : T → Parser T B) (other : Parser T B) → ((c : Cursor T) → other c ≡ Err (further c.rest c.far)) → (ts far : List T) → on test go other (cursor ts far) ≡ (token test >>= go) (cursor ts far)
unfolding on token
on_dead_at test go other dead [] far = refused_again other dead [] far
on_dead_at test go other dead (t ∷ ts) far = elim (truth (test t)) [ inl y ↦ rw y refl | inr n ↦ rw n (refused_again other dead (t ∷ ts) far) ]

pub on_dead_correct : {T B : Type 0} (test : T → Bool) (witness : T) → test witness ≡ true → (go : T → Parser T B) (other : Parser T B) (M : T → B → List T → List T → Type 0) (L : B → List T → List T → Type 0) (N : B → List T → Type 0)
    → ((t : T) → Correct (go t) (M t) Any N) → ((t : T) → Phrase (M t) N) → ((c : Cursor T) → other c ≡ Err (further c.rest c.far)) → ((b : B) (u rest : List T) → L b u rest → ⊥) → Correct (on test go other) (Either (Seq (IsToken test) M) L) Any N
on_dead_correct test witness passes go other M L N P some dead none =
    correct (on test go other) (Either (Seq (IsToken test) M) L) Any N (λ n. same_parser n (token test >>= go) (on test go other) (Either (Seq (IsToken test) M) L) Any N (λ c t. on_dead_at test go other dead c.rest c.far) tied_move
    (same_language n (token test >>= go) (Seq (IsToken test) M) (Either (Seq (IsToken test) M) L) Any Any N N (λ b u rest s. inl s) (λ b u rest e g. elim e [ inl s ↦ s | inr l ↦ absurd (none b u rest l) ]) (λ b rest g. g) (λ b rest h. h)
    (below n (token test >>= go) (Seq (IsToken test) M) Any N (bind_correct (token test) go (IsToken test) M Any Any Any N (token_correct test witness passes Any Any) P (λ a b u rest l h. tt)
    (λ a u l. let s = some a in record { whole = s.whole; tokens = s.tokens; phrase = λ tail h. (s.phrase tail h, tt) })))))

-- ---- one part

-- where levels are left, a part
pub read_part : {A : Type 0} {left : Bool} {p : Parser Token A} {L : A → List Token → List Token → Type 0} {Stop Halt F : List Token → Type 0} {test : TokenKind → Bool} → IsRead left p L Stop Halt test → left ≡ true → ((tail : List Token) → Stop tail → Halt tail) → ((ts : List Token) → first (of_kind test) ts ≡ true → F ts) → Part p L F (λ _. Stop)
read_part {test = test} R h halts asked = let s = R.phrase h in record {
  correct = R.correct h;
  whole = s.whole;
  tokens = s.tokens;
  phrase = λ tail stop. let l = s.phrase tail (halts tail stop) in (l, asked (s.tokens ++ tail) (first_of_front (of_kind test) s.tokens tail (R.begins s.whole s.tokens tail l)));
}

-- a token that passes the test doesn't come next
pub not_ahead : {T : Type 0} (test : T → Bool) (ts : List T) → first test ts ≡ false → NotReads (IsAhead test) ts
not_ahead test ts h a u rest is l = let e : true ≡ false = sym l.next ∙ ap (first test) (sym (is ∙ ap (λ (z : List _). z ++ rest) l.none)) ∙ h in absurd cc

is_absent : {T : Type 0} (test : T → Bool) (ts : List T) → NotReads (IsAhead test) ts → not (first test ts) ≡ true
is_absent test ts h = elim (truth (first test ts)) [ inl y ↦ absurd (h tt [] ts refl (record { none = refl; next = y })) | inr n ↦ ap not n ]

not_true : (b : Bool) → not b ≡ true → b ≡ false
not_true true h = absurd cc
not_true false h = refl

-- where no level is left, what the token would begin is refused at that token
module _ {T B : Type 0} (test : T → Bool) (q other : Parser T B) (dead : (c : Cursor T) → q c ≡ Err (further c.rest c.far)) (L M : B → List T → List T → Type 0) (none : (b : B) (u rest : List T) → L b u rest → ⊥) where
  next_dead_by : (c : Cursor T) (b : Bool) → first test c.rest ≡ b → where_next test q other c ≡ (absent test >> other) c
  unfolding attempt ahead absent looked
  next_dead_by c true e = rw e (refused_again q dead c.rest c.far)
  next_dead_by c false e = rw e refl

  next_dead : (c : Cursor T) → where_next test q other c ≡ (absent test >> other) c
  next_dead c = next_dead_by c (first test c.rest) refl

  next_to : (b : B) (u rest : List T) → Seq (IsAbsent test) (λ _. M) b u rest → WhereNext test L M b u rest
  next_to b u rest s =
      let same : u ≡ s.back = s.is ∙ ap (λ (z : List T). z ++ s.back) s.phrase.none in
      inr (subst (λ (z : List T). M b z rest) (sym same) s.phrase', not_ahead test (u ++ rest) (ap (λ (z : List T). first test (z ++ rest)) same ∙ not_true (first test (s.back ++ rest)) s.phrase.next))

  next_from : (b : B) (u rest : List T) → WhereNext test L M b u rest → Seq (IsAbsent test) (λ _. M) b u rest
  next_from b u rest (inl s) = absurd (none b s.back rest s.phrase')
  next_from b u rest (inr m) = record { value = tt; front = []; back = u; is = refl; phrase = record { none = refl; next = is_absent test (u ++ rest) m.1 }; phrase' = m.0 }

  next_dead_part : {F : List T → Type 0} {N : B → List T → Type 0} → (Q : Part other M F N) → ((tail : List T) → N Q.whole tail → first test (Q.tokens ++ tail) ≡ false) → Part (where_next test q other) (WhereNext test L M) F N
  next_dead_part {N = N} Q missing = record {
    correct = correct (where_next test q other) (WhereNext test L M) Any N (λ n. same_parser n (absent test >> other) (where_next test q other) (WhereNext test L M) Any N (λ c t. next_dead c) tied_move
        (same_language n (absent test >> other) (Seq (IsAbsent test) (λ _. M)) (WhereNext test L M) Any Any N N next_to (λ b u rest l g. next_from b u rest l) (λ b rest g. g) (λ b rest h. h)
        (below n (absent test >> other) (Seq (IsAbsent test) (λ _. M)) Any N
        (bind_correct (absent test) (λ _. other) (IsAbsent test) (λ _. M) Any (λ _ tail. not (first test tail) ≡ true) Any N (absent_correct test Any (λ _ tail. not (first test tail) ≡ true) (λ tail h. h)) (λ _. Q.correct) (λ a b u rest l h. tt)
        (λ a u l. record { whole = Q.whole; tokens = Q.tokens; phrase = λ tail h. ((Q.phrase tail h).0, ap not (missing tail h)) })))));
    whole = Q.whole;
    tokens = Q.tokens;
    phrase = λ tail h. let q = Q.phrase tail h in (inr (q.0, not_ahead test (Q.tokens ++ tail) (missing tail h)), q.1);
  }

-- a part that is there where its first token is, for which there may be no level left
pub next_left : {A B : Type 0} {p : Parser Token A} {go : A → Parser Token B} {other : Parser Token B} {K : A → List Token → List Token → Type 0} {L : A → B → List Token → List Token → Type 0} {M : B → List Token → List Token → Type 0} {Stop Halt F N : List Token → Type 0} {test : TokenKind → Bool}
    (left : Bool) → IsRead left p K Stop Halt test → ((tail : List Token) → Stop tail → Halt tail) → (left ≡ true → (a : A) → Part (go a) (L a) Stop (λ _. N)) → (Q : Part other M F (λ _. N)) → ((tail : List Token) → N tail → first (of_kind test) (Q.tokens ++ tail) ≡ false)
    → Part (where_next (of_kind test) (p >>= go) other) (WhereNext (of_kind test) (Seq K L) M) F (λ _. N)
next_left {test = test} true R halts P Q missing = where_part (ahead_part {F = Anything} (of_kind test) (λ tail h. h) (λ tail h. tt)) (λ _. then (read_part R refl halts (λ ts h. h)) (P refl)) Q (λ tail h. not_ahead (of_kind test) (Q.tokens ++ tail) (missing tail h))
next_left {p = p} {go = go} {other = other} {K = K} {L = L} {M = M} {test = test} false R halts P Q missing = next_dead_part (of_kind test) (p >>= go) other (λ c. rw (R.refuses refl c) refl) (Seq K L) M (λ b u rest s. R.none refl s.value s.front (s.back ++ rest) s.phrase) Q missing

-- ---- lists

not_over : {X Y : Type 0} (x : X) (y : Y) → inl x ≡ inr y → ⊥
not_over x y e = absurd cc

module _ {A : Type 0} (separator close : Token → Bool) (a-separator a-close : Token) (is-separator : separator a-separator ≡ true) (is-close : close a-close ≡ true) (apart : (t : Token) → close t ≡ true → separator t ≡ false)
    {item : Parser Token A} {Item : A → List Token → List Token → Type 0} {Stop Halt : List Token → Type 0} {test : TokenKind → Bool}
    (starts : (t : Token) → test t.kind ≡ true → close t ≡ false)
    (closes : (tail : List Token) → first close tail ≡ true → Stop tail) (halts : (tail : List Token) → Stop tail → Halt tail) where
  -- the closing token alone, which is all that there is where no item is left
  dead_turn : IsRead false item Item Stop Halt test → (xs : List A) → Correct (item_turn separator close item xs) (ItemTurn separator close Item xs) Any Any
  dead_turn R xs = on_dead_correct close a-close is-close (λ t. pure (inr (xs, t))) (item >>= (λ x. gap separator close >> pure (inl (xs ++ x ∷ [])))) (λ t. IsNothing (inr (xs, t))) (Seq Item (λ x. Seq (IsGap separator close) (λ _. IsNothing (inl (xs ++ x ∷ []))))) Any
      (λ t. pure_correct (inr (xs, t)) Any Any) (λ t. record { whole = inr (xs, t); tokens = []; phrase = λ tail h. record { value = refl; none = refl } })
      (λ c. rw (R.refuses refl c) refl) (λ b u rest s. R.none refl s.value s.front (s.back ++ rest) s.phrase)

  no_more : IsRead false item Item Stop Halt test → (xs ys : List A) (u rest : List Token) → ItemTurn separator close Item xs (inl ys) u rest → ⊥
  no_more R xs ys u rest (inl s) = absurd (not_over ys (xs, s.value) s.phrase'.value)
  no_more R xs ys u rest (inr s) = R.none refl s.value s.front (s.back ++ rest) s.phrase

  dead_items : IsRead false item Item Stop Halt test → Correct (items separator close item) (Items separator close Item) Any Any
  dead_items R = bind_correct (skip separator) (λ _. repeat (item_turn separator close item) []) (IsSkipped separator) (λ _. Loop (ItemTurn separator close Item) []) Any (NoneOf separator) Any Any (skip_correct separator Any (NoneOf separator) (λ rest h. h))
      (λ a. repeat_correct (item_turn separator close item) (ItemTurn separator close Item) Any Any Any Any (dead_turn R) (λ x y u rest l. absurd (no_more R x y u rest l)) (λ y b u rest l g. tt) (λ b rest g. tt) (λ b rest h. tt) (λ x y u l. absurd (no_more R x y u [] (l [] tt))) [])
      (λ a b u rest l h. tt)
      (λ a u l. let c = finish in record { whole = c.whole; tokens = c.tokens; phrase = λ tail h. (c.phrase tail h, apart a-close is-close) })
    where
      finish : Phrase (Loop (ItemTurn separator close Item) []) Any
      finish = record { whole = ([], a-close); tokens = a-close ∷ []; phrase = λ tail h. ends (inl (record { value = a-close; front = a-close ∷ []; back = []; is = refl; phrase = record { passes = is-close; one = refl }; phrase' = record { value = refl; none = refl } })) }

  items_exact : (left : Bool) → IsRead left item Item Stop Halt test → Correct (items separator close item) (Items separator close Item) Any Any
  items_exact true R = let s = R.phrase refl in
      items_correct separator close a-separator a-close is-separator is-close apart item Item (λ _. Stop) (R.correct refl) (record { whole = s.whole; tokens = s.tokens; phrase = λ tail h. s.phrase tail (halts tail h) }) (begins_eats test R.begins) (begins_no test close starts R.begins) (λ a tail h. closes tail h) Any
  items_exact false R = dead_items R

  pub items_part : {F : List Token → Type 0} (left : Bool) → IsRead left item Item Stop Halt test → ((tail : List Token) → F (a-close ∷ tail)) → Part (items separator close item) (Items separator close Item) F (λ _. Anything)
  items_part left R asked = record {
    correct = items_exact left R;
    whole = ([], a-close);
    tokens = a-close ∷ [];
    phrase = λ tail h. (
      record {
        value = tt;
        front = [];
        back = a-close ∷ [];
        is = refl;
        phrase = record { pass = tt; all = apart a-close is-close };
        phrase' = ends (inl (record { value = a-close; front = a-close ∷ []; back = []; is = refl; phrase = record { passes = is-close; one = refl }; phrase' = record { value = refl; none = refl } }));
      },
      asked tail,
    );
  }

module _ {A : Type 0} (comma close : Token → Bool) (a-comma a-close : Token) (is-comma : comma a-comma ≡ true) (is-close : close a-close ≡ true) (apart : (t : Token) → close t ≡ true → comma t ≡ false)
    {item : Parser Token A} {Item : A → List Token → List Token → Type 0} {Stop Halt : List Token → Type 0} {test : TokenKind → Bool}
    (starts : (t : Token) → test t.kind ≡ true → close t ≡ false)
    (closes : (tail : List Token) → first close tail ≡ true → Stop tail) (halts : (tail : List Token) → Stop tail → Halt tail) where
  commas_exact : (left : Bool) → IsRead left item Item Stop Halt test → Correct (maybe_comma_list comma close item) (MaybeCommaList comma close Item) Any Any
  commas_exact true R = let s = R.phrase refl in
      maybe_comma_list_correct comma close a-comma a-close is-comma is-close apart item Item (λ _. Stop) (R.correct refl) (record { whole = s.whole; tokens = s.tokens; phrase = λ tail h. s.phrase tail (halts tail h) }) (λ a tail h. closes tail h) (begins_no test close starts R.begins) Any
  commas_exact false R = on_dead_correct close a-close is-close (λ _. pure []) (comma_list comma close item) (λ _. IsNothing []) (CommaList comma close Item) Any (λ t. pure_correct [] Any Any) (λ t. record { whole = []; tokens = []; phrase = λ tail h. record { value = refl; none = refl } })
      (λ c. rw (R.refuses refl c) refl) (λ b u rest s. R.none refl s.value s.front (s.back ++ rest) s.phrase)

  pub commas_part : {F : List Token → Type 0} (left : Bool) → IsRead left item Item Stop Halt test → ((tail : List Token) → F (a-close ∷ tail)) → Part (maybe_comma_list comma close item) (MaybeCommaList comma close Item) F (λ _. Anything)
  commas_part left R asked = record {
    correct = commas_exact left R;
    whole = [];
    tokens = a-close ∷ [];
    phrase = λ tail h. (inl (record { value = a-close; front = a-close ∷ []; back = []; is = refl; phrase = record { passes = is-close; one = refl }; phrase' = record { value = refl; none = refl } }), asked tail);
  }

-- ---- a choice by the next token

-- of which the first is there in any case
pub on_left : {T : Type 0} {B : Type 0} {test : T → Bool} {go : T → Parser T B} {other : Parser T B} {M : T → B → List T → List T → Type 0} {L : B → List T → List T → Type 0} {F : List T → Type 0} {N : B → List T → Type 0} (witness : T) → test witness ≡ true
    → (left : Bool) → (left ≡ true → Correct other L Any N) → (left ≡ false → (c : Cursor T) → other c ≡ Err (further c.rest c.far)) → (left ≡ false → (b : B) (u rest : List T) → L b u rest → ⊥)
    → ((t : T) → Part (go t) (M t) Anything N) → ((b : B) (u rest : List T) → L b u rest → first test (u ++ rest) ≡ false) → ((ts : List T) → F (witness ∷ ts)) → Part (on test go other) (Either (Seq (IsToken test) M) L) F N
on_left {test = test} {go = go} {other = other} {M = M} {L = L} {N = N} witness passes left exact refuses none P apart asked = record {
  correct = elim (truth left) [
    | inl y ↦ on_correct test witness passes go other M L Any N (λ t. (P t).correct) (exact y) (λ t h. phrase_of (P t)) (λ b u rest l g. apart b u rest l)
    | inr n ↦ on_dead_correct test witness passes go other M L N (λ t. (P t).correct) (λ t. phrase_of (P t)) (refuses n) (none n)
  ];
  whole = (P witness).whole;
  tokens = witness ∷ (P witness).tokens;
  phrase = λ tail h. (inl (record { value = witness; front = witness ∷ []; back = (P witness).tokens; is = refl; phrase = record { passes = passes; one = refl }; phrase' = ((P witness).phrase tail h).0 }), asked ((P witness).tokens ++ tail));
}

-- where there is room for the first
pub on_room : {B : Type 0} {test : Token → Bool} {go : Token → Parser Token B} {other : Parser Token B} {M : Token → B → List Token → List Token → Type 0} {L : B → List Token → List Token → Type 0} {F : List Token → Type 0} {N : B → List Token → Type 0} (witness : Token) → test witness ≡ true
    → (b : Bool) → (b ≡ true → (t : Token) → Part (go t) (M t) Anything N) → (b ≡ false → (t : Token) (a : B) (u rest : List Token) → M t a u rest → ⊥) → Part other L F N → ((a : B) (u rest : List Token) → L a u rest → first test (u ++ rest) ≡ false) → Part (on_if b test go other) (Either (Seq (IsToken test) M) L) F N
on_room witness passes true P none Q apart = on_part witness passes (P refl) Q apart
on_room witness passes false P none Q apart = other_part (λ a u rest s. none refl s.value a s.back rest s.phrase') Q

-- the same, where the grammar asks for the room
pub on_only : {B : Type 0} {test : Token → Bool} {go : Token → Parser Token B} {other : Parser Token B} {M : Token → B → List Token → List Token → Type 0} {L : B → List Token → List Token → Type 0} {F : List Token → Type 0} {N : B → List Token → Type 0} (witness : Token) → test witness ≡ true
    → (b : Bool) → (b ≡ true → (t : Token) → Part (go t) (M t) Anything N) → Part other L F N → ((a : B) (u rest : List Token) → L a u rest → first test (u ++ rest) ≡ false) → Part (on_if b test go other) (Either (If b (Seq (IsToken test) M) Empty) L) F N
on_only {M = M} {L = L} witness passes true P Q apart = same_part (λ a u rest l. elim l [ inl s ↦ inl (inl (refl, s)) | inr m ↦ inr m ]) (λ a u rest l. elim l [ inl s ↦ elim s [ inl y ↦ inl y.1 | inr n ↦ absurd n.1 ] | inr m ↦ inr m ]) (on_part witness passes (P refl) Q apart)
on_only witness passes false P Q apart = other_part (λ a u rest l. elim l [ inl y ↦ absurd (let e : false ≡ true = y.0 in cc) | inr n ↦ absurd n.1 ]) Q
