-- Rows that are made one after the other.
use Rattle.std.proofs.Common.{arith, ℕ, zero, suc, ◌+◌, ◌<◌, ◌≤◌, List, [], ◌∷◌, ◌++◌, Option, Some, None, length, map, ◌≡◌, refl, ap, ◌∙◌, sym, subst, inl, inr, ◌⊎◌}
use Rattle.std.proofs.lemmas.Bool.{cases_order}
use Rattle.std.specs.Prelude.{slice_get}
use Rattle.kt_types_tree.specs.Types.{type_form}
use Rattle.kt_flow.specs.declared.facts.LocalFacts.{LocalFacts}
use Rattle.kt_flow.specs.Facts.{FactsForm}
use Rattle.kt_flow.specs.Rows.{types_in, surely_in, maybe_in, form_of}
use Rattle.kt_check_paths.specs.Parts.{parts_from}

-- facts are the same where they are so of each local
each_local : (f g : FactsForm) → ((x : ℕ) → f.types x ≡ g.types x) →
    ((x : ℕ) → f.surely_assigned x ≡ g.surely_assigned x) →
    ((x : ℕ) → f.maybe_assigned x ≡ g.maybe_assigned x) → f ≡ g
each_local f g p q r = λ i. record { types = λ x. p x i; surely_assigned = λ x. q x i; maybe_assigned = λ x. r x i }

-- the first so many rows are those of these facts
pub record AreBelow (rows : List LocalFacts) (f : FactsForm) (n : ℕ) : Type 0 where
  pub size : length rows ≡ n
  pub types : (x : ℕ) → x < n → types_in (slice_get rows x) ≡ f.types x
  pub surely : (x : ℕ) → x < n → surely_in (slice_get rows x) ≡ f.surely_assigned x
  pub maybe : (x : ℕ) → x < n → maybe_in (slice_get rows x) ≡ f.maybe_assigned x

pub none_is : (f : FactsForm) → AreBelow [] f 0
none_is f =
    record {
      size = refl;
      types = λ x p. absurd (omega (arith, p));
      surely = λ x p. absurd (omega (arith, p));
      maybe = λ x p. absurd (omega (arith, p));
    }

before_end : (rows : List LocalFacts) (r : LocalFacts) (x : ℕ) → x < length rows →
    slice_get (rows ++ r ∷ []) x ≡ slice_get rows x
before_end [] r x p = absurd (omega (arith, p))
before_end (y ∷ rows) r zero p = refl
before_end (y ∷ rows) r (suc x) p = before_end rows r x (omega (arith, p))

at_end : (rows : List LocalFacts) (r : LocalFacts) → slice_get (rows ++ r ∷ []) (length rows) ≡ Some r
at_end [] r = refl
at_end (y ∷ rows) r = at_end rows r

longer : (rows : List LocalFacts) (r : LocalFacts) → length (rows ++ r ∷ []) ≡ length rows + 1
longer [] r = refl
longer (y ∷ rows) r = let e = longer rows r in omega (arith, e)

-- a property of all places holds with one more
one_more : {A : Type 0} (show : Option LocalFacts → A) (is : ℕ → A) (rows : List LocalFacts) (r : LocalFacts)
    (n : ℕ) → length rows ≡ n → ((x : ℕ) → x < n → show (slice_get rows x) ≡ is x) → show (Some r) ≡ is n →
    (x : ℕ) → x < n + 1 → show (slice_get (rows ++ r ∷ []) x) ≡ is x
one_more show is rows r n e p q x less = by_place (cases_order x n)
  where
    by_place : (x ≡ n) ⊎ (x < n) ⊎ (n < x) → show (slice_get (rows ++ r ∷ []) x) ≡ is x
    by_place (inl s) =
        ap (λ x. show (slice_get (rows ++ r ∷ []) x)) (s ∙ sym e) ∙ ap show (at_end rows r) ∙ q ∙ ap is (sym s)
    by_place (inr (inl s)) = ap show (before_end rows r x (subst (λ n. x < n) (sym e) s)) ∙ p x s
    by_place (inr (inr s)) = absurd (omega (arith, s, less))

pub one_more_is : (rows : List LocalFacts) (f : FactsForm) (n : ℕ) (r : LocalFacts) → AreBelow rows f n →
    map type_form r.types ≡ f.types n → r.surely_assigned ≡ f.surely_assigned n →
    r.maybe_assigned ≡ f.maybe_assigned n → AreBelow (rows ++ r ∷ []) f (n + 1)
one_more_is rows f n r m a b c =
    record {
      size = longer rows r ∙ ap (λ n. n + 1) m.size;
      types = one_more types_in f.types rows r n m.size m.types a;
      surely = one_more surely_in f.surely_assigned rows r n m.size m.surely b;
      maybe = one_more maybe_in f.maybe_assigned rows r n m.size m.maybe c;
    }

past : (rows : List LocalFacts) (x : ℕ) → length rows ≤ x → slice_get rows x ≡ None
past [] x p = refl
past (y ∷ rows) zero p = absurd (omega (arith, p))
past (y ∷ rows) (suc x) p = past rows x (omega (arith, p))

-- a property of all places below a length, and past it
all_places : {A : Type 0} (show : Option LocalFacts → A) (is : ℕ → A) (rows : List LocalFacts) (n : ℕ) →
    length rows ≡ n → ((x : ℕ) → x < n → show (slice_get rows x) ≡ is x) →
    ((x : ℕ) → n ≤ x → show None ≡ is x) → (x : ℕ) → show (slice_get rows x) ≡ is x
all_places show is rows n e p q x = by_place (cases_order x n)
  where
    by_place : (x ≡ n) ⊎ (x < n) ⊎ (n < x) → show (slice_get rows x) ≡ is x
    by_place (inl s) = ap show (past rows x (omega (arith, e, s))) ∙ q x (omega (arith, s))
    by_place (inr (inl s)) = p x s
    by_place (inr (inr s)) = ap show (past rows x (omega (arith, e, s))) ∙ q x (omega (arith, s))

pub all_are : (rows ps qs rs : List LocalFacts) (n : ℕ) →
    AreBelow rows (parts_from (form_of ps) (form_of qs) (form_of rs)) n →
    length ps ≤ n → length qs ≤ n → length rs ≤ n →
    form_of rows ≡ parts_from (form_of ps) (form_of qs) (form_of rs)
all_are rows ps qs rs n m p q r =
    each_local _ _
    (all_places types_in (form_of ps).types rows n m.size m.types (λ x l. rw (past ps x (omega (arith, p, l))) refl))
    (all_places surely_in (form_of qs).surely_assigned rows n m.size m.surely
    (λ x l. rw (past qs x (omega (arith, q, l))) refl))
    (all_places maybe_in (form_of rs).maybe_assigned rows n m.size m.maybe
    (λ x l. rw (past rs x (omega (arith, r, l))) refl))
