-- The forms that productions are made of: lists and chains.
use Rattle.std.proofs.Common.{
  ◌≡◌,
  ℕ,
  ◌<◌,
  Bool,
  true,
  false,
  not,
  if◌then◌else◌,
  List,
  [],
  ◌∷◌,
  ◌++◌,
  length,
  Ok,
  Err,
  refl,
  sym,
  ap,
  subst,
  ◌∙◌,
  append_assoc,
  arith,
  inl,
  inr,
  ◌⊎◌,
  length-append,
}
use Rattle.std.proofs.lemmas.List.{append-nil, append_cancel_right}
use Rattle.kt_grammar_parsers.specs.Parsers.{
  Cursor,
  Parser,
  cursor,
  further,
  first,
  ◌>>=◌,
  ◌>>◌,
  pure,
  token,
  skip,
  attempt,
  attempt_if,
  repeat,
  ahead,
  comma_turn,
  comma_list,
  maybe_comma_list,
  more_turn,
  several,
  gap,
  item_turn,
  items,
  chain_turn,
  chain,
}
use Rattle.kt_grammar_parsers.specs.Phrases.{
  IsNothing,
  IsToken,
  IsSkipped,
  IsAhead,
  Seq,
  NotReads,
  FirstOf,
  If,
  WhereRoom,
  Loop,
  ends,
  CommaTurn,
  CommaList,
  MaybeCommaList,
  MoreTurn,
  Several,
  IsGap,
  ItemTurn,
  Items,
  ChainTurn,
  Chain,
}
use Rattle.kt_grammar_parsers.proofs.Ends.{further_short}
use Rattle.kt_grammar_parsers.proofs.Correct.{
  Begun,
  Refusal,
  Accepted,
  Below,
  Correct,
  Completion,
  below,
  correct,
  same_language,
}
use Rattle.kt_grammar_parsers.proofs.Bind.{bind_correct}
use Rattle.kt_grammar_parsers.proofs.Steps.{
  Any,
  truth,
  if_ok,
  if_err,
  refused_at,
  mark_moves,
  pure_correct,
  token_correct,
}
use Rattle.kt_grammar_parsers.proofs.Skip.{skip_correct}
use Rattle.kt_grammar_parsers.proofs.On.{Phrase, on_correct, first_same}
use Rattle.kt_grammar_parsers.proofs.Attempt.{attempt_correct}
use Rattle.kt_grammar_parsers.proofs.Repeat.{repeat_correct}

-- ---- a value made of what was read

pub gives_correct : {T A B : Type 0} (p : Parser T A) (f : A → B) (L : A → List T → List T → Type 0) (N : A → List T → Type 0) (N' : B → List T → Type 0) → Correct p L Any N → ((a : A) (tail : List T) → N' (f a) tail → N a tail)
    → Correct (p >>= (λ a. pure (f a))) (Seq L (λ a. IsNothing (f a))) Any N'
gives_correct p f L N N' P stop = bind_correct p (λ a. pure (f a)) L (λ a. IsNothing (f a)) Any N Any N' P (λ a. pure_correct (f a) Any N') (λ a b u rest l h. tt)
    (λ a u l. record { whole = f a; tokens = []; phrase = λ tail h. (record { value = refl; none = refl }, stop a tail h) })

pub gives_phrase : {T A B : Type 0} (f : A → B) (L : A → List T → List T → Type 0) (N : A → List T → Type 0) (N' : B → List T → Type 0) → ((a : A) (tail : List T) → N' (f a) tail → N a tail) → Phrase L N → Phrase (Seq L (λ a. IsNothing (f a))) N'
gives_phrase f L N N' stop s = record { whole = f s.whole; tokens = s.tokens; phrase = λ tail h. record { value = s.whole; front = s.tokens; back = []; is = sym (append-nil s.tokens); phrase = s.phrase tail (stop s.whole tail h); phrase' = record { value = refl; none = refl } } }

-- ---- a token that is only looked at

-- nothing is taken where what comes next looks so
unfoldable pub looked : {T : Type 0} → (List T → Bool) → Parser T (Unit {0})
looked look = λ c. if look c.rest then Ok (tt, cursor c.rest (further c.rest c.far)) else Err (further c.rest c.far)

module _ {T : Type 0} (look : List T → Bool) (first_alone : (u k d : List T) → 0 < length u → look (u ++ k) ≡ look (u ++ d)) (L : Unit {0} → List T → List T → Type 0)
    (is : (a : Unit {0}) (u rest : List T) → L a u rest → (u ≡ []) × (look rest ≡ true)) (make : (rest : List T) → look rest ≡ true → L tt [] rest)
    (G N : Unit {0} → List T → Type 0) (next : (tail : List T) → N tt tail → look tail ≡ true) where
  looked_ok : (c c' : Cursor T) (a : Unit {0}) → looked look c ≡ Ok (a, c') → (look c.rest ≡ true) × (c.rest ≡ c'.rest) × (further c.rest c.far ≡ c'.far)
  unfolding looked
  looked_ok c c' a e =
      let i = if_ok (look c.rest) (tt, cursor c.rest (further c.rest c.far)) (a, c') (further c.rest c.far) e in
      (i.0, ap (λ (r : Unit {0} × Cursor T). r.1.rest) i.1, ap (λ (r : Unit {0} × Cursor T). r.1.far) i.1)

  looked_err : (c : Cursor T) (k : List T) → looked look c ≡ Err k → (look c.rest ≡ false) × (further c.rest c.far ≡ k)
  unfolding looked
  looked_err c k e = if_err (look c.rest) (tt, cursor c.rest (further c.rest c.far)) (further c.rest c.far) k e

  nothing_begun : (ts : List T) → Begun L N ts ts
  nothing_begun ts = record { read = []; more = []; whole = tt; is = refl; phrase = λ tail h. make tail (next tail h) }

  looked_far : (c : Cursor T) (k : List T) → further c.rest c.far ≡ k → (k ≡ c.far) ⊎ Begun L N c.rest k
  looked_far c k e = (subst (λ (z : List T). Refusal L N c z) e (refused_at L N c c.rest (nothing_begun c.rest) (omega arith))).far

  looked_there : (c : Cursor T) → look c.rest ≡ true → looked look c ≡ Ok (tt, cursor c.rest (further c.rest c.far))
  unfolding looked
  looked_there c e = rw e refl

  looked_not : (c : Cursor T) → look c.rest ≡ false → looked look c ≡ Err (further c.rest c.far)
  unfolding looked
  looked_not c e = rw e refl

  looked_complete : (a : Unit {0}) (u rest far : List T) → L a u rest → Accepted (looked look) a u rest far
  looked_complete a u rest far l =
      let all : u ++ rest ≡ rest = ap (λ (z : List T). z ++ rest) (is a u rest l).0 in
      record { far' = further rest far; is = ap (λ (z : List T). looked look (cursor z far)) all ∙ looked_there (cursor rest far) (is a u rest l).1 }

  looked_local_ok : (a : Unit {0}) (u z y x k d : List T) → 0 < length x → looked look (cursor (u ++ k) (z ++ k)) ≡ Ok (a, cursor (y ++ k) (x ++ k)) → looked look (cursor (u ++ d) (z ++ d)) ≡ Ok (a, cursor (y ++ d) (x ++ d))
  looked_local_ok a u z y x k d pos e =
      let i = looked_ok (cursor (u ++ k) (z ++ k)) (cursor (y ++ k) (x ++ k)) a e in
      let some : 0 < length u = omega (arith, pos, ap length i.2, (further_short (u ++ k) (z ++ k)).0, length-append x k, length-append u k) in
      let uy : u ≡ y = append_cancel_right u y k i.1 in
      let marks : further (u ++ d) (z ++ d) ≡ x ++ d = mark_moves u z x k d i.2 in
      looked_there (cursor (u ++ d) (z ++ d)) (sym (first_alone u k d some) ∙ i.0) ∙ ap (λ (q : List T). Ok (tt, cursor (u ++ d) q)) marks ∙ ap (λ (q : List T). Ok (tt, cursor (q ++ d) (x ++ d))) uy

  looked_local_err : (u z x k d : List T) → 0 < length x → looked look (cursor (u ++ k) (z ++ k)) ≡ Err (x ++ k) → looked look (cursor (u ++ d) (z ++ d)) ≡ Err (x ++ d)
  looked_local_err u z x k d pos e =
      let i = looked_err (cursor (u ++ k) (z ++ k)) (x ++ k) e in
      let some : 0 < length u = omega (arith, pos, ap length i.1, (further_short (u ++ k) (z ++ k)).0, length-append x k, length-append u k) in
      looked_not (cursor (u ++ d) (z ++ d)) (sym (first_alone u k d some) ∙ i.0) ∙ ap Err (mark_moves u z x k d i.1)

  pub looked_correct : Correct (looked look) L G N
  looked_correct = record {
    sound = λ c a c' t e. let i = looked_ok c c' a e in
        record { read = []; is = i.1; phrase = make c'.rest (ap look (sym i.1) ∙ i.0); far = looked_far c c'.far i.2; shorter = omega (arith, ap length i.2, (further_short c.rest c.far).1) };
    complete = λ a u rest far t l g. looked_complete a u rest far l;
    failed = λ c k t e. let i = looked_err c k e in subst (λ (z : List T). Refusal L N c z) i.1 (refused_at L N c c.rest (nothing_begun c.rest) (omega arith));
    local_ok = λ a u z y x k d t pos e. looked_local_ok a u z y x k d pos e;
    local_err = λ u z x k d t pos e. looked_local_err u z x k d pos e;
  }

-- a token that passes the test comes next
pub ahead_correct : {T : Type 0} (test : T → Bool) (G N : Unit {0} → List T → Type 0) → ((tail : List T) → N tt tail → first test tail ≡ true) → Correct (ahead test) (IsAhead test) G N
unfolding ahead looked
ahead_correct test G N next = looked_correct (first test) (first_same test) (IsAhead test) (λ a u rest l. (l.none, l.next)) (λ rest h. record { none = refl; next = h }) G N next

-- no token that passes the test comes next
pub record IsAbsent {T : Type 0} (test : T → Bool) (a : Unit {0}) (u rest : List T) : Type 0 where
  pub none : u ≡ []
  pub next : not (first test rest) ≡ true

unfoldable pub absent : {T : Type 0} → (T → Bool) → Parser T (Unit {0})
absent test = looked (λ ts. not (first test ts))

pub absent_correct : {T : Type 0} (test : T → Bool) (G N : Unit {0} → List T → Type 0) → ((tail : List T) → N tt tail → not (first test tail) ≡ true) → Correct (absent test) (IsAbsent test) G N
unfolding absent
absent_correct test G N next = looked_correct (λ ts. not (first test ts)) (λ u k d h. ap not (first_same test u k d h)) (IsAbsent test) (λ a u rest l. (l.none, l.next)) (λ rest h. record { none = refl; next = h }) G N next

-- ---- what is read where there is room

pub from_true : {T A : Type 0} (L M : A → List T → List T → Type 0) (a : A) (u rest : List T) → If true L M a u rest → L a u rest
from_true L M a u rest (inl x) = x.1
from_true L M a u rest (inr x) = absurd (let e : true ≡ false = x.0 in cc)

pub from_false : {T A : Type 0} (L M : A → List T → List T → Type 0) (a : A) (u rest : List T) → If false L M a u rest → M a u rest
from_false L M a u rest (inl x) = absurd (let e : false ≡ true = x.0 in cc)
from_false L M a u rest (inr x) = x.1

pub if_true : {T A : Type 0} (n : ℕ) (p : Parser T A) (L M : A → List T → List T → Type 0) (G N : A → List T → Type 0) → Below n p L G N → Below n p (If true L M) G N
if_true n p L M G N B = same_language n p L (If true L M) G G N N (λ a u rest l. inl (refl, l)) (λ a u rest i g. from_true L M a u rest i) (λ a rest g. g) (λ a rest h. h) B

pub if_false : {T A : Type 0} (n : ℕ) (p : Parser T A) (L M : A → List T → List T → Type 0) (G N : A → List T → Type 0) → Below n p M G N → Below n p (If false L M) G N
if_false n p L M G N B = same_language n p M (If false L M) G G N N (λ a u rest m. inr (refl, m)) (λ a u rest i g. from_false L M a u rest i) (λ a rest g. g) (λ a rest h. h) B

pub attempt_if_correct : {T A B : Type 0} (b : Bool) (p : Parser T A) (go : A → Parser T B) (other : Parser T B) (K : A → List T → List T → Type 0) (L : A → B → List T → List T → Type 0) (M : B → List T → List T → Type 0) (NK : A → List T → Type 0) (N : B → List T → Type 0)
    → (b ≡ true → Correct (attempt p go other) (FirstOf K L M) Any N) → Correct other M Any N → Correct (attempt_if b p go other) (WhereRoom b K L M) Any N
attempt_if_correct true p go other K L M NK N P Q = correct (attempt p go other) (WhereRoom true K L M) Any N (λ n. if_true n (attempt p go other) (FirstOf K L M) M Any N (below n (attempt p go other) (FirstOf K L M) Any N (P refl)))
attempt_if_correct false p go other K L M NK N P Q = correct other (WhereRoom false K L M) Any N (λ n. if_false n other (FirstOf K L M) M Any N (below n other M Any N Q))

-- ---- lists with commas

module _ {T A : Type 0} (comma close : T → Bool) (a-comma a-close : T) (is-comma : comma a-comma ≡ true) (is-close : close a-close ≡ true) (apart : (t : T) → close t ≡ true → comma t ≡ false)
    (item : Parser T A) (Item : A → List T → List T → Type 0) (N : A → List T → Type 0) (I : Correct item Item Any N) (some : Phrase Item N)
    (closes : (a : A) (tail : List T) → first close tail ≡ true → N a tail) where
  -- a comma's turn is followed by the closing token
  CommaEnd : List A ⊎ List A → List T → Type 0
  CommaEnd (inl xs) tail = first close tail ≡ true
  CommaEnd (inr xs) tail = Unit {0}

  One : List A → List A ⊎ List A → List T → List T → Type 0
  One xs = Seq Item (λ x. IsNothing (inl (xs ++ x ∷ [])))

  Last : List A → List A ⊎ List A → List T → List T → Type 0
  Last xs = Seq (IsToken close) (λ _. IsNothing (inr xs))

  one_more : (xs : List A) → Correct (item >>= (λ x. pure (inl (xs ++ x ∷ [])))) (One xs) Any CommaEnd
  unfolding CommaEnd One
  one_more xs = gives_correct item (λ x. inl (xs ++ x ∷ [])) Item N CommaEnd I (λ a tail h. closes a tail h)

  last : (xs : List A) → Correct (token close >>= (λ _. pure (inr xs))) (Last xs) Any CommaEnd
  unfolding CommaEnd Last
  last xs = gives_correct (token close) (λ _. inr xs) (IsToken close) Any CommaEnd (token_correct close a-close is-close Any Any) (λ a tail h. tt)

  comma_turn_correct : (xs : List A) → Correct (comma_turn comma close item xs) (CommaTurn comma close Item xs) Any CommaEnd
  unfolding CommaEnd One Last
  comma_turn_correct xs = on_correct comma a-comma is-comma (λ _. item >>= (λ x. pure (inl (xs ++ x ∷ [])))) (token close >>= (λ _. pure (inr xs))) (λ _. One xs) (Last xs) Any CommaEnd (λ t. one_more xs) (last xs)
      (λ t h. gives_phrase (λ x. inl (xs ++ x ∷ [])) Item N CommaEnd (λ a tail h. closes a tail h) some)
      (λ b u rest l g. ap (λ (z : List T). first comma (z ++ rest)) (l.is ∙ ap (λ (z : List T). z ++ l.back) l.phrase.one) ∙ apart l.value l.phrase.passes)

  a_comma_eats : (xs ys : List A) (u rest : List T) → CommaTurn comma close Item xs (inl ys) u rest → 0 < length u
  a_comma_eats xs ys u rest (inl s) = omega (arith, ap length s.is, length-append s.front s.back, ap length s.phrase.one)
  a_comma_eats xs ys u rest (inr s) = omega (arith, ap length s.is, length-append s.front s.back, ap length s.phrase.one)

  closing : (N' : List A → List T → Type 0) (xs : List A) → Completion CommaEnd (inl xs) (Loop (CommaTurn comma close Item) xs) N'
  unfolding CommaEnd
  closing N' xs = record { whole = xs; tokens = a-close ∷ []; phrase = λ tail h. (ends (inr (record { value = a-close; front = a-close ∷ []; back = []; is = refl; phrase = record { passes = is-close; one = refl }; phrase' = record { value = refl; none = refl } })), is-close) }

  commas_correct : (N' : List A → List T → Type 0) (xs : List A) → Correct (repeat (comma_turn comma close item) xs) (Loop (CommaTurn comma close Item) xs) Any N'
  unfolding CommaEnd
  commas_correct N' xs = repeat_correct (comma_turn comma close item) (CommaTurn comma close Item) Any CommaEnd Any N' comma_turn_correct a_comma_eats (λ y b u rest l g. tt) (λ b rest g. tt) (λ b rest h. tt) (λ x y u l. closing N' y) xs

  pub comma_list_correct : (N' : List A → List T → Type 0) → Correct (comma_list comma close item) (CommaList comma close Item) Any N'
  unfolding CommaEnd
  comma_list_correct N' = bind_correct item (λ x. repeat (comma_turn comma close item) (x ∷ [])) Item (λ x. Loop (CommaTurn comma close Item) (x ∷ [])) Any N Any N' I (λ x. commas_correct N' (x ∷ [])) (λ a b u rest l h. tt)
      (λ a u l. let c = closing N' (a ∷ []) in record { whole = c.whole; tokens = c.tokens; phrase = λ tail h. let q = c.phrase tail h in (q.0, closes a (c.tokens ++ tail) q.1) })

  pub comma_list_phrase : (N' : List A → List T → Type 0) → Phrase (CommaList comma close Item) N'
  unfolding CommaEnd
  comma_list_phrase N' = let c = closing N' (some.whole ∷ []) in
      record { whole = c.whole; tokens = some.tokens ++ c.tokens; phrase = λ tail h. let q = c.phrase tail h in record { value = some.whole; front = some.tokens; back = c.tokens; is = refl; phrase = some.phrase (c.tokens ++ tail) (closes some.whole (c.tokens ++ tail) q.1); phrase' = q.0 } }

  -- where no item begins with the closing token, the list may be empty
  pub maybe_comma_list_correct : ((a : A) (u rest : List T) → Item a u rest → first close (u ++ rest) ≡ false) → (N' : List A → List T → Type 0) → Correct (maybe_comma_list comma close item) (MaybeCommaList comma close Item) Any N'
  maybe_comma_list_correct starts N' = on_correct close a-close is-close (λ _. pure []) (comma_list comma close item) (λ _. IsNothing []) (CommaList comma close Item) Any N' (λ t. pure_correct [] Any N') (comma_list_correct N')
      (λ t h. record { whole = []; tokens = []; phrase = λ tail h. record { value = refl; none = refl } })
      (λ b u rest l g. ap (first close) (ap (λ (z : List T). z ++ rest) l.is ∙ append_assoc l.front l.back rest) ∙ starts l.value l.front (l.back ++ rest) l.phrase)

  pub maybe_comma_list_phrase : (N' : List A → List T → Type 0) → Phrase (MaybeCommaList comma close Item) N'
  maybe_comma_list_phrase N' = record { whole = []; tokens = a-close ∷ []; phrase = λ tail h. inl (record { value = a-close; front = a-close ∷ []; back = []; is = refl; phrase = record { passes = is-close; one = refl }; phrase' = record { value = refl; none = refl } }) }

-- ---- as long as it goes on: an operator, lines, and an operand

-- what may follow tokens that are skipped
abbrev pub NoneOf : {T : Type 0} → (T → Bool) → Unit {0} → List T → Type 0
NoneOf test a tail = first test tail ≡ false

module _ {T O A S B : Type 0} (line : T → Bool) (r : Parser T O) (K : O → List T → List T → Type 0) (R : Correct r K Any Any)
    (item : Parser T A) (Item : A → List T → List T → Type 0) (N : A → List T → Type 0) (I : Correct item Item Any N) (some : Phrase Item N)
    (no_line : (a : A) (u rest : List T) → Item a u rest → first line (u ++ rest) ≡ false)
    (Stop : List T → Type 0) (stop_item : (a : A) (tail : List T) → Stop tail → N a tail) (stop_reads : (tail : List T) → Stop tail → NotReads K tail) where
  abbrev pub StopTurn : S ⊎ B → List T → Type 0
  StopTurn f tail = Stop tail

  abbrev Operand : (A → S) → S ⊎ B → List T → List T → Type 0
  Operand build = Seq Item (λ x. IsNothing (inl (build x)))

  operand_correct : (build : A → S) → Correct (skip line >> (item >>= (λ x. pure (inl (build x))))) (Seq (IsSkipped line) (λ _. Operand build)) Any StopTurn
  operand_correct build = bind_correct (skip line) (λ _. item >>= (λ x. pure (inl (build x)))) (IsSkipped line) (λ _. Operand build) Any (NoneOf line) Any StopTurn (skip_correct line Any (NoneOf line) (λ rest h. h))
      (λ a. gives_correct item (λ x. inl (build x)) Item N StopTurn I (λ a tail h. stop_item a tail h)) (λ a b u rest l h. tt)
      (λ a u l. record {
        whole = inl (build some.whole);
        tokens = some.tokens;
        phrase = λ tail h.
            let p = some.phrase tail (stop_item some.whole tail h) in
            (record { value = some.whole; front = some.tokens; back = []; is = sym (append-nil some.tokens); phrase = p; phrase' = record { value = refl; none = refl } }, no_line some.whole some.tokens tail p);
      })

  operand_phrase : (build : A → S) (tail : List T) → Stop tail → Seq (IsSkipped line) (λ _. Operand build) (inl (build some.whole)) some.tokens tail
  operand_phrase build tail h =
      let p = some.phrase tail (stop_item some.whole tail h) in
      record {
        value = tt;
        front = [];
        back = some.tokens;
        is = refl;
        phrase = record { pass = tt; all = no_line some.whole some.tokens tail p };
        phrase' = record { value = some.whole; front = some.tokens; back = []; is = sym (append-nil some.tokens); phrase = p; phrase' = record { value = refl; none = refl } };
      }

  abbrev Further : (O → A → S) → B → S ⊎ B → List T → List T → Type 0
  Further build b = FirstOf K (λ o. Seq (IsSkipped line) (λ _. Operand (build o))) (IsNothing (inr b))

  pub further_correct : (build : O → A → S) (b : B) → Correct (attempt r (λ o. skip line >> (item >>= (λ x. pure (inl (build o x))))) (pure (inr b))) (Further build b) Any StopTurn
  further_correct build b = attempt_correct r (λ o. skip line >> (item >>= (λ x. pure (inl (build o x))))) (pure (inr b)) K (λ o. Seq (IsSkipped line) (λ _. Operand (build o))) (IsNothing (inr b)) Any Any StopTurn R (λ o. operand_correct (build o)) (pure_correct (inr b) Any StopTurn)
      (λ o u l. record { whole = inl (build o some.whole); tokens = some.tokens; phrase = λ tail h. (operand_phrase (build o) tail h, tt) })

  further_stops : (build : O → A → S) (b : B) (tail : List T) → Stop tail → Further build b (inr b) [] tail
  further_stops build b tail h = inr (record { value = refl; none = refl }, stop_reads tail h)

-- item (lead ',' lines item)*
module _ {T A : Type 0} (lead : Parser T (Unit {0})) (Lead : Unit {0} → List T → List T → Type 0) (comma line : T → Bool) (K-is : Correct (lead >> token comma) (Seq Lead (λ _. IsToken comma)) Any Any)
    (item : Parser T A) (Item : A → List T → List T → Type 0) (N : A → List T → Type 0) (I : Correct item Item Any N) (some : Phrase Item N)
    (no_line : (a : A) (u rest : List T) → Item a u rest → first line (u ++ rest) ≡ false)
    (Stop : List T → Type 0) (stop_item : (a : A) (tail : List T) → Stop tail → N a tail) (stop_reads : (tail : List T) → Stop tail → NotReads (Seq Lead (λ _. IsToken comma)) tail) where
  abbrev SeveralEnd : List A → List T → Type 0
  SeveralEnd xs tail = Stop tail

  abbrev TurnEnd : List A ⊎ List A → List T → Type 0
  TurnEnd f tail = Stop tail

  more_turn_correct : (xs : List A) → Correct (more_turn lead comma line item xs) (MoreTurn Lead comma line Item xs) Any TurnEnd
  more_turn_correct xs = further_correct line (lead >> token comma) (Seq Lead (λ _. IsToken comma)) K-is item Item N I some no_line Stop stop_item stop_reads (λ _ x. xs ++ x ∷ []) xs

  more_eats : (xs ys : List A) (u rest : List T) → MoreTurn Lead comma line Item xs (inl ys) u rest → 0 < length u
  more_eats xs ys u rest (inl s) = omega (arith, ap length s.is, length-append s.front s.back, ap length s.phrase.is, length-append s.phrase.front s.phrase.back, ap length s.phrase.phrase'.one)
  more_eats xs ys u rest (inr m) = absurd (let e : inl ys ≡ inr xs = m.0.value in cc)

  pub several_correct : Correct (several lead comma line item) (Several Lead comma line Item) Any SeveralEnd
  several_correct = bind_correct item (λ x. repeat (more_turn lead comma line item) (x ∷ [])) Item (λ x. Loop (MoreTurn Lead comma line Item) (x ∷ [])) Any N Any SeveralEnd I
      (λ x. repeat_correct (more_turn lead comma line item) (MoreTurn Lead comma line Item) Any TurnEnd Any SeveralEnd more_turn_correct more_eats (λ y b u rest l g. tt) (λ b rest g. tt) (λ b rest h. h) (λ xs ys u l. stop_here ys) (x ∷ []))
      (λ a b u rest l h. tt)
      (λ a u l. let c = stop_here (a ∷ []) in record { whole = a ∷ []; tokens = []; phrase = λ tail h. ((c.phrase tail h).0, stop_item a tail h) })
    where
      stop_here : (ys : List A) → Completion TurnEnd (inl ys) (Loop (MoreTurn Lead comma line Item) ys) SeveralEnd
      stop_here ys = record { whole = ys; tokens = []; phrase = λ tail h. (ends (inr (record { value = refl; none = refl }, stop_reads tail h)), h) }

-- operand (operator lines operand)*, grouped to the left
module _ {T A O : Type 0} (room : A → Bool) (operator : Parser T O) (K : O → List T → List T → Type 0) (R : Correct operator K Any Any) (k_eats : (o : O) (u rest : List T) → K o u rest → 0 < length u) (line : T → Bool)
    (first_operand : Parser T A) (First : A → List T → List T → Type 0) (N-first : A → List T → Type 0) (F : Correct first_operand First Any N-first)
    (operand : Parser T A) (Item : A → List T → List T → Type 0) (N : A → List T → Type 0) (I : (a : A) → room a ≡ true → Correct operand Item Any N) (some : (a : A) → room a ≡ true → Phrase Item N)
    (no_line : (a : A) (u rest : List T) → Item a u rest → first line (u ++ rest) ≡ false) (build : O → A → A → A)
    (Stop : List T → Type 0) (stop_first : (a : A) (tail : List T) → Stop tail → N-first a tail) (stop_item : (a : A) (tail : List T) → Stop tail → N a tail) (stop_reads : (tail : List T) → Stop tail → NotReads K tail) where
  abbrev ChainEnd : A → List T → Type 0
  ChainEnd a tail = Stop tail

  abbrev LinkEnd : A ⊎ A → List T → Type 0
  LinkEnd f tail = Stop tail

  chain_turn_correct : (a : A) → Correct (chain_turn room operator line operand build a) (ChainTurn room K line Item build a) Any LinkEnd
  chain_turn_correct a = attempt_if_correct (room a) operator (λ o. skip line >> (operand >>= (λ b. pure (inl (build o a b))))) (pure (inr a)) K (λ o. Seq (IsSkipped line) (λ _. Seq Item (λ b. IsNothing (inl (build o a b))))) (IsNothing (inr a)) Any LinkEnd
      (λ h. further_correct line operator K R operand Item N (I a h) (some a h) no_line Stop stop_item stop_reads (λ o b. build o a b) a) (pure_correct (inr a) Any LinkEnd)

  link_eats : (a b : A) (u rest : List T) → ChainTurn room K line Item build a (inl b) u rest → 0 < length u
  link_eats a b u rest (inl x) = elim x.1 [ inl s ↦ omega (arith, ap length s.is, length-append s.front s.back, k_eats s.value s.front (s.back ++ rest) s.phrase) | inr m ↦ absurd (let e : inl b ≡ inr a = m.0.value in cc) ]
  link_eats a b u rest (inr x) = absurd (let e : inl b ≡ inr a = x.1.value in cc)

  chain_ends : (a : A) (tail : List T) → Stop tail → ChainTurn room K line Item build a (inr a) [] tail
  chain_ends a tail h = elim (truth (room a)) [ inl y ↦ inl (y, inr (record { value = refl; none = refl }, stop_reads tail h)) | inr n ↦ inr (n, record { value = refl; none = refl }) ]

  chain_stops : (a : A) → Completion LinkEnd (inl a) (Loop (ChainTurn room K line Item build) a) ChainEnd
  chain_stops a = record { whole = a; tokens = []; phrase = λ tail h. (ends (chain_ends a tail h), h) }

  pub chain_correct : Correct (chain room first_operand operator line operand build) (Chain room First K line Item build) Any ChainEnd
  unfolding chain_stops
  chain_correct = bind_correct first_operand (λ a. repeat (chain_turn room operator line operand build) a) First (λ a. Loop (ChainTurn room K line Item build) a) Any N-first Any ChainEnd F
      (λ a. repeat_correct (chain_turn room operator line operand build) (ChainTurn room K line Item build) Any LinkEnd Any ChainEnd chain_turn_correct link_eats (λ y b u rest l g. tt) (λ b rest g. tt) (λ b rest h. h) (λ x y u l. chain_stops y) a)
      (λ a b u rest l h. tt)
      (λ a u l. record { whole = a; tokens = []; phrase = λ tail h. (((chain_stops a).phrase tail h).0, stop_first a tail h) })

-- ---- items between separators

module _ {T A : Type 0} (separator close : T → Bool) (a-separator a-close : T) (is-separator : separator a-separator ≡ true) (is-close : close a-close ≡ true) (apart : (t : T) → close t ≡ true → separator t ≡ false)
    (item : Parser T A) (Item : A → List T → List T → Type 0) (N : A → List T → Type 0) (I : Correct item Item Any N) (some : Phrase Item N)
    (eats : (a : A) (u rest : List T) → Item a u rest → 0 < length u)
    (no_close : (a : A) (u rest : List T) → Item a u rest → first close (u ++ rest) ≡ false)
    (closes : (a : A) (tail : List T) → first close tail ≡ true → N a tail) where
  -- a gap, and an item with its gap, are followed by the closing token
  abbrev Closing : Unit {0} → List T → Type 0
  Closing a tail = first close tail ≡ true

  ItemEnd : List A ⊎ (List A × T) → List T → Type 0
  ItemEnd (inl xs) tail = first close tail ≡ true
  ItemEnd (inr xs) tail = Unit {0}

  close_first : (tail : List T) → first close tail ≡ true → first separator tail ≡ false
  close_first [] h = refl
  close_first (t ∷ tail) h = apart t h

  gap_correct : Correct (gap separator close) (IsGap separator close) Any Closing
  gap_correct = on_correct separator a-separator is-separator (λ _. skip separator) (ahead close) (λ _. IsSkipped separator) (IsAhead close) Any Closing
      (λ t. skip_correct separator Any Closing (λ rest h. close_first rest h)) (ahead_correct close Any Closing (λ tail h. h))
      (λ t h. record { whole = tt; tokens = []; phrase = λ tail h. record { pass = tt; all = close_first tail h } })
      (λ b u rest l g. ap (λ (z : List T). first separator (z ++ rest)) l.none ∙ close_first rest l.next)

  abbrev Spaced : List A → List A ⊎ (List A × T) → List T → List T → Type 0
  Spaced xs = Seq Item (λ x. Seq (IsGap separator close) (λ _. IsNothing (inl (xs ++ x ∷ []))))

  spaced_correct : (xs : List A) → Correct (item >>= (λ x. gap separator close >> pure (inl (xs ++ x ∷ [])))) (Spaced xs) Any ItemEnd
  unfolding ItemEnd
  spaced_correct xs = bind_correct item (λ x. gap separator close >> pure (inl (xs ++ x ∷ []))) Item (λ x. Seq (IsGap separator close) (λ _. IsNothing (inl (xs ++ x ∷ [])))) Any N Any ItemEnd I
      (λ x. gives_correct (gap separator close) (λ _. inl (xs ++ x ∷ [])) (IsGap separator close) Closing ItemEnd gap_correct (λ a tail h. h)) (λ a b u rest l h. tt)
      (λ a u l. record {
        whole = inl (xs ++ a ∷ []);
        tokens = [];
        phrase = λ tail h.
            (record { value = tt; front = []; back = []; is = refl; phrase = inr (record { none = refl; next = h }); phrase' = record { value = refl; none = refl } }, closes a tail h);
      })

  finish_correct : (t : T) (xs : List A) → Correct (pure (inr (xs, t))) (IsNothing (inr (xs, t))) Any ItemEnd
  finish_correct t xs = pure_correct (inr (xs, t)) Any ItemEnd

  item_turn_correct : (xs : List A) → Correct (item_turn separator close item xs) (ItemTurn separator close Item xs) Any ItemEnd
  unfolding ItemEnd
  item_turn_correct xs = on_correct close a-close is-close (λ t. pure (inr (xs, t))) (item >>= (λ x. gap separator close >> pure (inl (xs ++ x ∷ [])))) (λ t. IsNothing (inr (xs, t))) (Spaced xs) Any ItemEnd
      (λ t. finish_correct t xs) (spaced_correct xs)
      (λ t h. record { whole = inr (xs, t); tokens = []; phrase = λ tail h. record { value = refl; none = refl } })
      (λ b u rest l g. ap (first close) (ap (λ (z : List T). z ++ rest) l.is ∙ append_assoc l.front l.back rest) ∙ no_close l.value l.front (l.back ++ rest) l.phrase)

  item_eats : (xs ys : List A) (u rest : List T) → ItemTurn separator close Item xs (inl ys) u rest → 0 < length u
  item_eats xs ys u rest (inl s) = omega (arith, ap length s.is, length-append s.front s.back, ap length s.phrase.one)
  item_eats xs ys u rest (inr s) = omega (arith, eats s.value s.front (s.back ++ rest) s.phrase, ap length s.is, length-append s.front s.back)

  finished : (N' : List A × T → List T → Type 0) (ys : List A) → Completion ItemEnd (inl ys) (Loop (ItemTurn separator close Item) ys) N'
  unfolding ItemEnd
  finished N' ys = record { whole = (ys, a-close); tokens = a-close ∷ []; phrase = λ tail h. (ends (inl (record { value = a-close; front = a-close ∷ []; back = []; is = refl; phrase = record { passes = is-close; one = refl }; phrase' = record { value = refl; none = refl } })), is-close) }

  pub items_correct : (N' : List A × T → List T → Type 0) → Correct (items separator close item) (Items separator close Item) Any N'
  unfolding ItemEnd finished
  items_correct N' = bind_correct (skip separator) (λ _. repeat (item_turn separator close item) []) (IsSkipped separator) (λ _. Loop (ItemTurn separator close Item) []) Any (NoneOf separator) Any N' (skip_correct separator Any (NoneOf separator) (λ rest h. h))
      (λ a. repeat_correct (item_turn separator close item) (ItemTurn separator close Item) Any ItemEnd Any N' item_turn_correct item_eats (λ y b u rest l g. tt) (λ b rest g. tt) (λ b rest h. tt) (λ x y u l. finished N' y) [])
      (λ a b u rest l h. tt)
      (λ a u l. let c = finished N' [] in record { whole = c.whole; tokens = c.tokens; phrase = λ tail h. ((c.phrase tail h).0, apart a-close is-close) })
