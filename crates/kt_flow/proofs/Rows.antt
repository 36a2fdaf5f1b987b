-- Rows that are set or added, as facts.
use Rattle.std.proofs.Common.{arith, ℕ, zero, suc, ◌+◌, ◌<◌, ◌≤◌, Bool, true, false, List, [], ◌∷◌, ◌++◌, Option, Some, None, length, map, ◌≡◌, refl, ap, ◌∙◌, sym, subst, if◌then◌else◌, inl, inr, ◌⊎◌}
use Rattle.std.proofs.lemmas.Bool.{cases_order}
use Rattle.std.specs.Prelude.{slice_get, slice_set, ◌==◌}
use Rattle.kt_types_tree.specs.Types.{TypeForm, type_form}
use Rattle.kt_flow.specs.declared.facts.LocalFacts.{LocalFacts}
use Rattle.kt_flow.specs.Facts.{FactsForm, but_at, has_type, with_type, learn, assign, meet}
use Rattle.kt_flow.specs.Rows.{types_in, surely_in, maybe_in, form_of}

-- facts are the same where they are so of each local
pub each_local : (f g : FactsForm) → ((x : ℕ) → f.types x ≡ g.types x) → ((x : ℕ) → f.surely_assigned x ≡ g.surely_assigned x) → ((x : ℕ) → f.maybe_assigned x ≡ g.maybe_assigned x) → f ≡ g
each_local f g p q r = λ i. record { types = λ x. p x i; surely_assigned = λ x. q x i; maybe_assigned = λ x. r x i }

-- a row that says nothing
pub record IsBare (r : LocalFacts) : Type 0 where
  pub types : r.types ≡ []
  pub surely : r.surely_assigned ≡ false
  pub maybe : r.maybe_assigned ≡ false

bare_types : (rows : List LocalFacts) (r : LocalFacts) (x : ℕ) → r.types ≡ [] → types_in (slice_get (rows ++ r ∷ []) x) ≡ types_in (slice_get rows x)
bare_types [] r zero e = ap (map type_form) e
bare_types [] r (suc x) e = refl
bare_types (y ∷ rows) r zero e = refl
bare_types (y ∷ rows) r (suc x) e = bare_types rows r x e

bare_surely : (rows : List LocalFacts) (r : LocalFacts) (x : ℕ) → r.surely_assigned ≡ false → surely_in (slice_get (rows ++ r ∷ []) x) ≡ surely_in (slice_get rows x)
bare_surely [] r zero e = e
bare_surely [] r (suc x) e = refl
bare_surely (y ∷ rows) r zero e = refl
bare_surely (y ∷ rows) r (suc x) e = bare_surely rows r x e

bare_maybe : (rows : List LocalFacts) (r : LocalFacts) (x : ℕ) → r.maybe_assigned ≡ false → maybe_in (slice_get (rows ++ r ∷ []) x) ≡ maybe_in (slice_get rows x)
bare_maybe [] r zero e = e
bare_maybe [] r (suc x) e = refl
bare_maybe (y ∷ rows) r zero e = refl
bare_maybe (y ∷ rows) r (suc x) e = bare_maybe rows r x e

pub grown : (rows : List LocalFacts) (r : LocalFacts) → r.types ≡ [] → r.surely_assigned ≡ false → r.maybe_assigned ≡ false → form_of (rows ++ r ∷ []) ≡ form_of rows
grown rows r e f g = each_local _ _ (λ x. bare_types rows r x e) (λ x. bare_surely rows r x f) (λ x. bare_maybe rows r x g)

-- a row that is set

not_zero : (x : ℕ) → (suc x == 0) ≡ false
not_zero x = grind arith

zero_not : (x : ℕ) → (0 == suc x) ≡ false
zero_not x = grind arith

next : (x n : ℕ) → (suc x == suc n) ≡ (x == n)
next x n = by_test (x == n) refl
  where
    by_test : (b : Bool) → (x == n) ≡ b → (suc x == suc n) ≡ b
    by_test true e = grind arith
    by_test false e = grind arith

pub set_get : (rows : List LocalFacts) (n : ℕ) (r : LocalFacts) (x : ℕ) → n < length rows → slice_get (slice_set rows n r) x ≡ (if x == n then Some r else slice_get rows x)
set_get [] n r x p = absurd (omega (arith, p))
set_get (y ∷ rows) zero r zero p = refl
set_get (y ∷ rows) zero r (suc x) p = rw (not_zero x) refl
set_get (y ∷ rows) (suc n) r zero p = rw (zero_not n) refl
set_get (y ∷ rows) (suc n) r (suc x) p = rw (next x n) (set_get rows n r x (omega (arith, p)))

under : {A B : Type 0} (f : A → B) (b : Bool) (y z : A) → f (if b then y else z) ≡ (if b then f y else f z)
under f true y z = refl
under f false y z = refl

pub set_form : (rows : List LocalFacts) (n : ℕ) (r : LocalFacts) → n < length rows → form_of (slice_set rows n r) ≡ record {
  types = but_at n (map type_form r.types) (form_of rows).types;
  surely_assigned = but_at n r.surely_assigned (form_of rows).surely_assigned;
  maybe_assigned = but_at n r.maybe_assigned (form_of rows).maybe_assigned;
}
set_form rows n r p = each_local _ _
    (λ x. ap types_in (set_get rows n r x p) ∙ under types_in (x == n) _ _)
    (λ x. ap surely_in (set_get rows n r x p) ∙ under surely_in (x == n) _ _)
    (λ x. ap maybe_in (set_get rows n r x p) ∙ under maybe_in (x == n) _ _)

-- a place that keeps what it has
same_at : {A : Type 0} (f : ℕ → A) (n x : ℕ) (a : A) → a ≡ f n → but_at n a f x ≡ f x
same_at f n x a e = at (x == n) refl
  where
    at : (b : Bool) → (x == n) ≡ b → (if b then a else f x) ≡ f x
    at true q = e ∙ ap f (sym (equal x n q))
      where
        equal : (x n : ℕ) → (x == n) ≡ true → x ≡ n
        equal x n q = grind arith
    at false q = refl

-- what was learnt is known
known_at : (f : FactsForm) (n : ℕ) (t : TypeForm) → has_type t (f.types n) ≡ true → f ≡ learn n t f
known_at f n t e = each_local f (learn n t f)
    (λ x. sym (same_at f.types n x (with_type t (f.types n)) (already (has_type t (f.types n)) e)))
    (λ x. refl)
    (λ x. refl)
  where
    already : (b : Bool) → b ≡ true → (if b then f.types n else f.types n ++ t ∷ []) ≡ f.types n
    already true e = refl
    already false e = cc

pub known : (b : Bool) (rows : List LocalFacts) (n : ℕ) (t : TypeForm) → b ≡ has_type t ((form_of rows).types n) → b ≡ true → form_of rows ≡ learn n t (form_of rows)
known b rows n t e f = known_at (form_of rows) n t (sym e ∙ f)

-- a row with one type more
pub record IsLearning (r : LocalFacts) (f : FactsForm) (n : ℕ) (t : TypeForm) : Type 0 where
  pub types : map type_form r.types ≡ f.types n ++ t ∷ []
  pub surely : r.surely_assigned ≡ f.surely_assigned n
  pub maybe : r.maybe_assigned ≡ f.maybe_assigned n

pub learning : (rows : List LocalFacts) (n : ℕ) (t : TypeForm) (r : LocalFacts) → n < length rows → has_type t ((form_of rows).types n) ≡ false → map type_form r.types ≡ (form_of rows).types n ++ t ∷ [] → r.surely_assigned ≡ (form_of rows).surely_assigned n → r.maybe_assigned ≡ (form_of rows).maybe_assigned n → form_of (slice_set rows n r) ≡ learn n t (form_of rows)
learning rows n t r p e a b c = set_form rows n r p ∙ each_local _ _
    (λ x. ap (λ ts. but_at n ts (form_of rows).types x) (a ∙ new (has_type t ((form_of rows).types n)) e))
    (λ x. same_at (form_of rows).surely_assigned n x r.surely_assigned b)
    (λ x. same_at (form_of rows).maybe_assigned n x r.maybe_assigned c)
  where
    new : (b : Bool) → b ≡ false → (form_of rows).types n ++ t ∷ [] ≡ (if b then (form_of rows).types n else (form_of rows).types n ++ t ∷ [])
    new false e = refl
    new true e = cc

pub assigning : (rows : List LocalFacts) (n : ℕ) (r : LocalFacts) → n < length rows → r.types ≡ [] → r.surely_assigned ≡ true → r.maybe_assigned ≡ true → form_of (slice_set rows n r) ≡ assign n (form_of rows)
assigning rows n r p a b c = set_form rows n r p ∙ each_local _ _
    (λ x. ap (λ ts. but_at n (map type_form ts) (form_of rows).types x) a)
    (λ x. ap (λ v. but_at n v (form_of rows).surely_assigned x) b)
    (λ x. ap (λ v. but_at n v (form_of rows).maybe_assigned x) c)

-- Rows that are made one after the other where two paths join.

pub record IsMetBelow (rows : List LocalFacts) (f g : FactsForm) (n : ℕ) : Type 0 where
  pub size : length rows ≡ n
  pub types : (x : ℕ) → x < n → types_in (slice_get rows x) ≡ (meet f g).types x
  pub surely : (x : ℕ) → x < n → surely_in (slice_get rows x) ≡ (meet f g).surely_assigned x
  pub maybe : (x : ℕ) → x < n → maybe_in (slice_get rows x) ≡ (meet f g).maybe_assigned x

pub none_met : (f g : FactsForm) → IsMetBelow [] f g 0
none_met f g = record {
  size = refl;
  types = λ x p. absurd (omega (arith, p));
  surely = λ x p. absurd (omega (arith, p));
  maybe = λ x p. absurd (omega (arith, p));
}

before_end : (rows : List LocalFacts) (r : LocalFacts) (x : ℕ) → x < length rows → slice_get (rows ++ r ∷ []) x ≡ slice_get rows x
before_end [] r x p = absurd (omega (arith, p))
before_end (y ∷ rows) r zero p = refl
before_end (y ∷ rows) r (suc x) p = before_end rows r x (omega (arith, p))

at_end : (rows : List LocalFacts) (r : LocalFacts) → slice_get (rows ++ r ∷ []) (length rows) ≡ Some r
at_end [] r = refl
at_end (y ∷ rows) r = at_end rows r

longer : (rows : List LocalFacts) (r : LocalFacts) → length (rows ++ r ∷ []) ≡ length rows + 1
longer [] r = refl
longer (y ∷ rows) r = let e = longer rows r in omega (arith, e)

-- a property of all places holds with one more
one_more : {A : Type 0} (show : Option LocalFacts → A) (is : ℕ → A) (rows : List LocalFacts) (r : LocalFacts) (n : ℕ) → length rows ≡ n → ((x : ℕ) → x < n → show (slice_get rows x) ≡ is x) → show (Some r) ≡ is n → (x : ℕ) → x < n + 1 → show (slice_get (rows ++ r ∷ []) x) ≡ is x
one_more show is rows r n e p q x less = by_place (cases_order x n)
  where
    by_place : (x ≡ n) ⊎ (x < n) ⊎ (n < x) → show (slice_get (rows ++ r ∷ []) x) ≡ is x
    by_place (inl s) = ap (λ x. show (slice_get (rows ++ r ∷ []) x)) (s ∙ sym e) ∙ ap show (at_end rows r) ∙ q ∙ ap is (sym s)
    by_place (inr (inl s)) = ap show (before_end rows r x (subst (λ n. x < n) (sym e) s)) ∙ p x s
    by_place (inr (inr s)) = absurd (omega (arith, s, less))

pub one_met : (rows : List LocalFacts) (f g : FactsForm) (n : ℕ) (r : LocalFacts) → IsMetBelow rows f g n → map type_form r.types ≡ (meet f g).types n → r.surely_assigned ≡ (meet f g).surely_assigned n → r.maybe_assigned ≡ (meet f g).maybe_assigned n → IsMetBelow (rows ++ r ∷ []) f g (n + 1)
one_met rows f g n r m a b c = record {
  size = longer rows r ∙ ap (λ n. n + 1) m.size;
  types = one_more types_in (meet f g).types rows r n m.size m.types a;
  surely = one_more surely_in (meet f g).surely_assigned rows r n m.size m.surely b;
  maybe = one_more maybe_in (meet f g).maybe_assigned rows r n m.size m.maybe c;
}

past : (rows : List LocalFacts) (x : ℕ) → length rows ≤ x → slice_get rows x ≡ None
past [] x p = refl
past (y ∷ rows) zero p = absurd (omega (arith, p))
past (y ∷ rows) (suc x) p = past rows x (omega (arith, p))

-- a property of all places below a length, and past it
all_places : {A : Type 0} (show : Option LocalFacts → A) (is : ℕ → A) (rows : List LocalFacts) (n : ℕ) → length rows ≡ n → ((x : ℕ) → x < n → show (slice_get rows x) ≡ is x) → ((x : ℕ) → n ≤ x → show None ≡ is x) → (x : ℕ) → show (slice_get rows x) ≡ is x
all_places show is rows n e p q x = by_place (cases_order x n)
  where
    by_place : (x ≡ n) ⊎ (x < n) ⊎ (n < x) → show (slice_get rows x) ≡ is x
    by_place (inl s) = ap show (past rows x (omega (arith, e, s))) ∙ q x (omega (arith, s))
    by_place (inr (inl s)) = p x s
    by_place (inr (inr s)) = ap show (past rows x (omega (arith, e, s))) ∙ q x (omega (arith, s))

pub all_met : (rows ps qs : List LocalFacts) (n : ℕ) → IsMetBelow rows (form_of ps) (form_of qs) n → length ps ≤ n → length qs ≤ n → form_of rows ≡ meet (form_of ps) (form_of qs)
all_met rows ps qs n m p q = each_local _ _
    (all_places types_in (meet (form_of ps) (form_of qs)).types rows n m.size m.types
    (λ x l. rw (past ps x (omega (arith, p, l))) refl))
    (all_places surely_in (meet (form_of ps) (form_of qs)).surely_assigned rows n m.size m.surely
    (λ x l. rw (past ps x (omega (arith, p, l))) refl))
    (all_places maybe_in (meet (form_of ps) (form_of qs)).maybe_assigned rows n m.size m.maybe
    (λ x l. rw (past ps x (omega (arith, p, l)), past qs x (omega (arith, q, l))) refl))
