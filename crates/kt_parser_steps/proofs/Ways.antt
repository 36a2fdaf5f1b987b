-- The steps that productions are made of, one equation for each way through their code.
use Rattle.std.proofs.Common.{◌≡◌, ℕ, zero, suc, ◌<◌, ◌≤◌, Bool, true, List, [], ◌∷◌, length, take, drop, get_or, ◌-◌, Some, None, Result, Ok, Err, refl, ap, sym, subst, ◌∙◌, arith}
use Rattle.std.proofs.lemmas.List.{take_all}
use Rattle.kt_parser_steps.specs.declared.error.ParseError.{ParseError}
use Rattle.kt_grammar_parsers.specs.Parsers.{Cursor, Parser, Outcome, cursor, further, first, token, ahead, attempt, ◌>>◌, some_levels}
use Rattle.kt_parser_steps.specs.Cursors.{Turned}
use Rattle.kt_parser_steps.proofs.Turns.{token_taken, token_missed}
use Rattle.kt_parser_steps.specs.Steps.{Expects, ReadsAs}
use Rattle.kt_parser_steps.specs.declared.refused.Refused.{Refused}
use Rattle.kt_tree.specs.declared.tokens.Token.{Token}
use Rattle.kt_grammar.specs.Terminals.{Meaning}
use Rattle.kt_grammar.specs.Readers.{meant}

pub reads_from : {T A B : Type 0} (tree : A → B) (o o' : Outcome T B) → o ≡ o' → (r : Result A ParseError) (new : Cursor T) → ReadsAs tree o' r new → ReadsAs tree o r new
reads_from tree o o' e r new h = subst (λ (z : Outcome _ _). ReadsAs tree z r new) (sym e) h

pub expects_from : {T A B : Type 0} (view : A → B) (o o' : Outcome T B) → o ≡ o' → (r : Result A Refused) (new : Cursor T) → Expects view o' r new → Expects view o r new
expects_from view o o' e r new h = subst (λ (z : Outcome _ _). Expects view z r new) (sym e) h

-- what a call gave, where a closure gives it on
pub reads_on : {T A B : Type 0} (tree : A → B) (o : Outcome T B) (x r : Result A ParseError) (c new : Cursor T) → ReadsAs tree o x c → (r ≡ x) × (new ≡ c) → ReadsAs tree o r new
reads_on tree o x r c new h same = subst (λ (z : Result _ ParseError). ReadsAs tree o z new) (sym same.0) (subst (λ (z : Cursor _). ReadsAs tree o x z) (sym same.1) h)

pub attempt_ok : {T A B : Type 0} (p : Parser T A) (go : A → Parser T B) (other : Parser T B) (c : Cursor T) (a : A) (c' : Cursor T) → p c ≡ Ok (a, c') → attempt p go other c ≡ go a c'
unfolding attempt
attempt_ok p go other c a c' e = rw e refl

pub attempt_err : {T A B : Type 0} (p : Parser T A) (go : A → Parser T B) (other : Parser T B) (c : Cursor T) (k : List T) → p c ≡ Err k → attempt p go other c ≡ other (cursor c.rest k)
unfolding attempt
attempt_err p go other c k e = rw e refl

pub missed_rest : {T : Type 0} (test : T → Bool) (c c' : Cursor T) → Turned test c None c' → c'.rest ≡ c.rest
missed_rest test c c' h = ap (λ (z : Cursor _). z.rest) h.1

there : {T : Type 0} (test : T → Bool) (c c' : Cursor T) (t : T) → Turned test c (Some t) c' → first test c.rest ≡ true
there test c c' t h = ap (first test) h.0 ∙ h.1

pub ahead_seen : {T : Type 0} (test : T → Bool) (c c1 c2 : Cursor T) (t : T) → Turned test c (Some t) c1 → (place : List T) → place ≡ c.rest → c2 ≡ cursor place (further place c1.far) → ahead test c ≡ Ok (tt, c2)
unfolding ahead
ahead_seen test c c1 c2 t h place e g =
    let marked : c2 ≡ cursor c.rest (further c.rest c.far) = g ∙ ap (λ (z : List _). cursor z (further z c1.far)) e ∙ ap (λ (z : List _). cursor c.rest (further c.rest z)) h.2 in
    rw (there test c c1 t h) (ap (λ (z : Cursor _). Ok (tt, z)) (sym marked))

pub ahead_unseen : {T : Type 0} (test : T → Bool) (c c1 : Cursor T) → Turned test c None c1 → ahead test c ≡ Err c1.far
unfolding ahead
ahead_unseen test c c1 h = rw h.0 (ap (λ (z : Cursor _). Err z.far) (sym h.1))

pub past_taken : {T B : Type 0} (test : T → Bool) (q : Parser T B) (c c1 : Cursor T) (t : T) → Turned test c (Some t) c1 → (token test >> q) c ≡ q c1
past_taken test q c c1 t h = rw (token_taken test c t c1 h) refl

pub past_missed : {T B : Type 0} (test : T → Bool) (q : Parser T B) (c c1 : Cursor T) → Turned test c None c1 → (token test >> q) c ≡ Err c1.far
past_missed test q c c1 h = rw (token_missed test c c1 h) refl

pub levels_left : (n : ℕ) → 0 < n → some_levels n ≡ true
levels_left zero h = absurd (omega arith)
levels_left (suc n) h = refl

-- ---- what the next token stands for

meant_nothing : {A : Type 0} (m : Meaning A) (ts far : List Token) → (t : Token) (more : List Token) → ts ≡ t ∷ more → m t ≡ None → meant m (cursor ts far) ≡ Err (further ts far)
unfolding meant
meant_nothing m ts far t more e is = rw e (rw is refl)

meant_something : {A : Type 0} (m : Meaning A) (ts far : List Token) (t : Token) (more : List Token) (a : A) → ts ≡ t ∷ more → m t ≡ Some a → meant m (cursor ts far) ≡ Ok ((t, a), cursor more far)
unfolding meant
meant_something m ts far t more a e is = rw e (rw is refl)

meant_none_left : {A : Type 0} (m : Meaning A) (ts far : List Token) → length ts < 1 → meant m (cursor ts far) ≡ Err (further ts far)
unfolding meant
meant_none_left m [] far h = refl
meant_none_left m (t ∷ ts) far h = absurd (omega arith)

split : (ts : List Token) (t : Token) → 1 ≤ length ts → t ≡ get_or ts 0 t → ts ≡ t ∷ drop 1 ts
split [] t some e = absurd (omega arith)
split (x ∷ ts) t some e = ap (λ (z : Token). z ∷ ts) (sym e)

rest_taken : (ts : List Token) → take (length ts - 1) (drop 1 ts) ≡ drop 1 ts
rest_taken [] = refl
rest_taken (t ∷ ts) = take_all _ ts (omega arith)

marked_rest : (c c1 : Cursor Token) → c1 ≡ cursor c.rest (further c.rest c.far) → (c1.far ≡ further c.rest c.far) × (c1.rest ≡ c.rest)
marked_rest c c1 e = (ap (λ (z : Cursor Token). z.far) e, ap (λ (z : Cursor Token). z.rest) e)

module _ {A : Type 0} (m : Meaning A) (c c1 : Cursor Token) (ts : List Token) (here : ts ≡ c.rest) where
  module _ (marked : c1 ≡ cursor c.rest (further c.rest c.far)) where
    missed_meant : meant m c ≡ Err (further c.rest c.far) → (meant m c ≡ Err c1.far) × (c1.rest ≡ c.rest)
    missed_meant e = (e ∙ ap (λ (z : List Token). Err z) (sym (marked_rest c c1 marked).0), (marked_rest c c1 marked).1)

    -- no token is left
    pub meant_spent : length ts < 1 → (meant m c ≡ Err c1.far) × (c1.rest ≡ c.rest)
    meant_spent h = missed_meant (meant_none_left m c.rest c.far (subst (λ (z : List Token). length z < 1) here h))

    -- the next token stands for nothing
    pub meant_missed : (t : Token) → 1 ≤ length ts → t ≡ get_or ts 0 t → None ≡ m t → (meant m c ≡ Err c1.far) × (c1.rest ≡ c.rest)
    meant_missed t some first none = missed_meant (meant_nothing m c.rest c.far t (drop 1 ts) (sym here ∙ split ts t some first) (sym none))

  -- the next token stands for something
  pub meant_found : (t : Token) → 1 ≤ length ts → t ≡ get_or ts 0 t → (a : A) → Some a ≡ m t → c1 ≡ cursor (take (length ts - 1) (drop 1 ts)) c.far → meant m c ≡ Ok ((t, a), c1)
  meant_found t some first a is went = meant_something m c.rest c.far t (drop 1 ts) a (sym here ∙ split ts t some first) (sym is)
      ∙ ap (λ (z : List Token). Ok ((t, a), cursor z c.far)) (sym (rest_taken ts)) ∙ ap (λ (z : Cursor Token). Ok ((t, a), z)) (sym went)
