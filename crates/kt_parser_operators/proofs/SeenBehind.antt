-- What a parser gives, seen as something else: it is seen so where each of its ways is.
use Rattle.std.proofs.Common.{◌≡◌, Bool, true, false, List, [], ◌∷◌, Ok, Err, refl}
use Rattle.kt_tree.specs.declared.tokens.Token.{Token}
use Rattle.kt_grammar_parsers.specs.Parsers.{Cursor, Outcome, Parser, cursor, further, and_then, pure, on, turned, turned_by, attempt, attempt_if, tried}
use Rattle.kt_grammar.specs.Readers.{on_if}

abbrev pub seen : {T A B : Type 0} → (A → B) → Outcome T A → Outcome T B
seen f o = and_then o (λ a. pure (f a))

pub then_seen : {T A B C : Type 0} (f : B → C) (go : A → Parser T B) (go' : A → Parser T C) → ((a : A) (c : Cursor T) → go' a c ≡ seen f (go a c)) → (o : Outcome T A) → and_then o go' ≡ seen f (and_then o go)
then_seen f go go' same (Ok x) = same x.0 x.1
then_seen f go go' same (Err k) = refl

module _ {T A B C : Type 0} (f : B → C) (go : A → Parser T B) (go' : A → Parser T C) (other : Parser T B) (other' : Parser T C) (same : (a : A) (c : Cursor T) → go' a c ≡ seen f (go a c)) (also : (c : Cursor T) → other' c ≡ seen f (other c)) where
  tried_seen : (o : Outcome T A) (rest : List T) → tried o go' other' rest ≡ seen f (tried o go other rest)
  tried_seen (Ok x) rest = same x.0 x.1
  tried_seen (Err k) rest = also (cursor rest k)

  pub attempt_if_seen : (there : Bool) (p : Parser T A) (c : Cursor T) → attempt_if there p go' other' c ≡ seen f (attempt_if there p go other c)
  unfolding attempt
  attempt_if_seen true p c = tried_seen (p c) c.rest
  attempt_if_seen false p c = also c

module _ {T B C : Type 0} (f : B → C) (go : T → Parser T B) (go' : T → Parser T C) (other : Parser T B) (other' : Parser T C) (same : (t : T) (c : Cursor T) → go' t c ≡ seen f (go t c)) (also : (c : Cursor T) → other' c ≡ seen f (other c)) where
  turned_by_seen : (passes : Bool) (t : T) (ts far : List T) → turned_by passes go' other' t ts far ≡ seen f (turned_by passes go other t ts far)
  turned_by_seen true t ts far = same t (cursor ts far)
  turned_by_seen false t ts far = also (cursor (t ∷ ts) (further (t ∷ ts) far))

  turned_seen : (test : T → Bool) (ts far : List T) → turned test go' other' ts far ≡ seen f (turned test go other ts far)
  turned_seen test [] far = also (cursor [] (further [] far))
  turned_seen test (t ∷ ts) far = turned_by_seen (test t) t ts far

  pub on_seen : (test : T → Bool) (c : Cursor T) → on test go' other' c ≡ seen f (on test go other c)
  unfolding on
  on_seen test c = turned_seen test c.rest c.far

module _ {B C : Type 0} (f : B → C) (go : Token → Parser Token B) (go' : Token → Parser Token C) (other : Parser Token B) (other' : Parser Token C) (same : (t : Token) (c : Cursor Token) → go' t c ≡ seen f (go t c)) (also : (c : Cursor Token) → other' c ≡ seen f (other c)) where
  pub on_if_seen : (there : Bool) (test : Token → Bool) (c : Cursor Token) → on_if there test go' other' c ≡ seen f (on_if there test go other c)
  on_if_seen true test c = on_seen f go go' other other' same also test c
  on_if_seen false test c = also c
