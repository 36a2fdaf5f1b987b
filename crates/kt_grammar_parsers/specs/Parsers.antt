-- Parsers over lists of tokens of any type, made of a few steps. A parser gives a value and the tokens behind it, or
-- refuses. It keeps the furthest token that it examined and could not take: what is refused, is refused there.
use Rattle.std.specs.Prelude.{
  ℕ,
  zero,
  suc,
  Bool,
  true,
  false,
  if◌then◌else◌,
  nat_le,
  List,
  [],
  ◌∷◌,
  ◌++◌,
  length,
  Result,
  Ok,
  Err,
  ◌⊎◌,
}
use Rattle.std.proofs.Common.{inl, inr}

pub record Cursor (T : Type 0) : Type 0 where
  -- the tokens that are not taken yet
  pub rest : List T
  -- the tokens from the furthest one on that was examined in vain
  pub far : List T

-- a value, or the tokens from the refused one on
abbrev pub Outcome : Type 0 → Type 0 → Type 0
Outcome T A = Result (A × Cursor T) (List T)

abbrev pub Parser : Type 0 → Type 0 → Type 0
Parser T A = Cursor T → Outcome T A

abbrev pub cursor : {T : Type 0} → List T → List T → Cursor T
cursor rest far = record { rest = rest; far = far }

-- of two ends of one list the one that is further on
unfoldable pub further : {T : Type 0} → List T → List T → List T
further a b = if nat_le (length a) (length b) then a else b

-- there is a first token, and it passes the test
abbrev pub first : {T : Type 0} → (T → Bool) → List T → Bool
first test [] = false
first test (t ∷ ts) = test t

abbrev pub tail : {T : Type 0} → List T → List T
tail [] = []
tail (t ∷ ts) = ts

abbrev pub and_then : {T A B : Type 0} → Outcome T A → (A → Parser T B) → Outcome T B
and_then (Ok x) go = go x.0 x.1
and_then (Err k) go = Err k

infixl 10 ◌>>=◌
abbrev pub ◌>>=◌ : {T A B : Type 0} → Parser T A → (A → Parser T B) → Parser T B
p >>= go = λ c. and_then (p c) go

infixl 10 ◌>>◌
abbrev pub ◌>>◌ : {T A B : Type 0} → Parser T A → Parser T B → Parser T B
p >> q = p >>= (λ _. q)

-- takes nothing
abbrev pub pure : {T A : Type 0} → A → Parser T A
pure a = λ c. Ok (a, c)

abbrev pub taken : {T : Type 0} → (T → Bool) → List T → List T → Outcome T T
taken test [] far = Err (further [] far)
taken test (t ∷ ts) far = if test t then Ok (t, cursor ts far) else Err (further (t ∷ ts) far)

-- the next token, which is to pass the test
unfoldable pub token : {T : Type 0} → (T → Bool) → Parser T T
token test = λ c. taken test c.rest c.far

-- the tokens behind those that come first and pass the test
abbrev pub behind : {T : Type 0} → (T → Bool) → List T → List T
behind test [] = []
behind test (t ∷ ts) = if test t then behind test ts else t ∷ ts

-- takes the tokens that pass the test, as many as there are
unfoldable pub skip : {T : Type 0} → (T → Bool) → Parser T (Unit {0})
skip test = λ c. Ok (tt, cursor (behind test c.rest) (further (behind test c.rest) c.far))

abbrev pub turned_by : {T B : Type 0} → Bool → (T → Parser T B) → Parser T B → T → List T → List T → Outcome T B
turned_by true go other t ts far = go t (cursor ts far)
turned_by false go other t ts far = other (cursor (t ∷ ts) (further (t ∷ ts) far))

abbrev pub turned : {T B : Type 0} → (T → Bool) → (T → Parser T B) → Parser T B → List T → List T → Outcome T B
turned test go other [] far = other (cursor [] (further [] far))
turned test go other (t ∷ ts) far = turned_by (test t) go other t ts far

-- where the next token passes the test, takes it and goes on with it, else the other
unfoldable pub on : {T B : Type 0} → (T → Bool) → (T → Parser T B) → Parser T B → Parser T B
on test go other = λ c. turned test go other c.rest c.far

abbrev pub tried : {T A B : Type 0} → Outcome T A → (A → Parser T B) → Parser T B → List T → Outcome T B
tried (Ok x) go other rest = go x.0 x.1
tried (Err k) go other rest = other (cursor rest k)

-- where the first reads what comes next, goes on with it, else the other from the same place
unfoldable pub attempt : {T A B : Type 0} → Parser T A → (A → Parser T B) → Parser T B → Parser T B
attempt p go other = λ c. tried (p c) go other c.rest

abbrev pub again : {T S B : Type 0} → (S → Parser T B) → S ⊎ B → Parser T B
again go (inl x) = go x
again go (inr b) = pure b

unfoldable pub loop : {T S B : Type 0} → (S → Parser T (S ⊎ B)) → ℕ → S → Parser T B
loop turn zero x = λ c. Err (further c.rest c.far)
loop turn (suc n) x = turn x >>= again (loop turn n)

-- Turns until one ends it. As many turns as there are tokens are enough, since each takes one.
abbrev pub repeat : {T S B : Type 0} → (S → Parser T (S ⊎ B)) → S → Parser T B
repeat turn x = λ c. loop turn (suc (length c.rest)) x c

-- takes nothing, where the next token passes the test
unfoldable pub ahead : {T : Type 0} → (T → Bool) → Parser T (Unit {0})
ahead test = λ c. if first test c.rest then Ok (tt, cursor c.rest (further c.rest c.far))
    else Err (further c.rest c.far)

-- at least one level is left
abbrev pub some_levels : ℕ → Bool
some_levels zero = false
some_levels (suc n) = true

-- an attempt, where there is room for what it reads
abbrev pub attempt_if : {T A B : Type 0} → Bool → Parser T A → (A → Parser T B) → Parser T B → Parser T B
attempt_if true p go other = attempt p go other
attempt_if false p go other = other

-- where the next token passes the test, the one, else the other
abbrev pub where_next : {T B : Type 0} → (T → Bool) → Parser T B → Parser T B → Parser T B
where_next test p other = attempt (ahead test) (λ _. p) other

-- ---- lists

-- ',' item, or the token that ends the list
abbrev pub comma_turn : {T A : Type 0} → (T → Bool) → (T → Bool) → Parser T A → List A → Parser T (List A ⊎ List A)
comma_turn comma close item xs =
    on comma (λ _. item >>= (λ x. pure (inl (xs ++ x ∷ [])))) (token close >>= (λ _. pure (inr xs)))

-- item (',' item)* close
abbrev pub comma_list : {T A : Type 0} → (T → Bool) → (T → Bool) → Parser T A → Parser T (List A)
comma_list comma close item = item >>= (λ x. repeat (comma_turn comma close item) (x ∷ []))

-- (item (',' item)*)? close
abbrev pub maybe_comma_list : {T A : Type 0} → (T → Bool) → (T → Bool) → Parser T A → Parser T (List A)
maybe_comma_list comma close item = on close (λ _. pure []) (comma_list comma close item)

-- lead ',' lines item, as long as a comma follows
abbrev pub more_turn : {T A : Type 0} → Parser T (Unit {0}) → (T → Bool) → (T → Bool) → Parser T A → List A
    → Parser T (List A ⊎ List A)
more_turn lead comma line item xs =
    attempt (lead >> token comma) (λ _. skip line >> (item >>= (λ x. pure (inl (xs ++ x ∷ []))))) (pure (inr xs))

-- item (lead ',' lines item)*
abbrev pub several : {T A : Type 0} → Parser T (Unit {0}) → (T → Bool) → (T → Bool) → Parser T A → Parser T (List A)
several lead comma line item = item >>= (λ x. repeat (more_turn lead comma line item) (x ∷ []))

-- separators, at least one where no closing token comes
abbrev pub gap : {T : Type 0} → (T → Bool) → (T → Bool) → Parser T (Unit {0})
gap separator close = on separator (λ _. skip separator) (ahead close)

-- an item and the gap behind it, or the closing token
abbrev pub item_turn : {T A : Type 0} → (T → Bool) → (T → Bool) → Parser T A → List A → Parser T (List A ⊎ (List A × T))
item_turn separator close item xs =
    on close (λ t. pure (inr (xs, t))) (item >>= (λ x. gap separator close >> pure (inl (xs ++ x ∷ []))))

-- separators, the items, and the closing token
abbrev pub items : {T A : Type 0} → (T → Bool) → (T → Bool) → Parser T A → Parser T (List A × T)
items separator close item = skip separator >> repeat (item_turn separator close item) []

-- ---- chains

-- lead operator lines operand, as long as an operator follows and there is room
abbrev pub chain_turn : {T A O : Type 0} → (A → Bool) → Parser T O → (T → Bool) → Parser T A → (O → A → A → A) → A
    → Parser T (A ⊎ A)
chain_turn room operator line operand build a =
    attempt_if (room a) operator (λ o. skip line >> (operand >>= (λ b. pure (inl (build o a b))))) (pure (inr a))

-- operand (operator lines operand)*, grouped to the left
abbrev pub chain : {T A O : Type 0} → (A → Bool) → Parser T A → Parser T O → (T → Bool) → Parser T A → (O → A → A → A)
    → Parser T A
chain room first_operand operator line operand build = first_operand
    >>= (λ a. repeat (chain_turn room operator line operand build) a)
