-- Rows that say the same are the same facts.
use Rattle.std.proofs.Common.{ℕ, zero, suc, Bool, List, [], ◌∷◌, Option, Some, None, ◌≡◌, refl, ap, map}
use Rattle.std.specs.Prelude.{slice_get}
use Rattle.kt_types_tree.specs.Types.{TypeForm}
use Rattle.kt_flow.specs.declared.facts.LocalFacts.{LocalFacts}
use Rattle.kt_flow.specs.Facts.{FactsForm}
use Rattle.kt_flow.specs.Rows.{types_in, surely_in, maybe_in, form_of}
use Rattle.kt_check_names.specs.Facts.{Shown, shown}

abbrev SaySame : Option LocalFacts → Option LocalFacts → Type 0
SaySame o p = (types_in o ≡ types_in p) × (surely_in o ≡ surely_in p) × (maybe_in o ≡ maybe_in p)

say_same : (xs ys : List LocalFacts) → map shown xs ≡ map shown ys → (n : ℕ) → SaySame (slice_get xs n) (slice_get ys n)
say_same [] [] e n = (refl, refl, refl)
say_same [] (y ∷ ys) e n = cc
say_same (x ∷ xs) [] e n = cc
say_same (x ∷ xs) (y ∷ ys) e zero =
    let f : shown x ≡ shown y = cc in (ap (λ s. s.types) f, ap (λ s. s.surely) f, ap (λ s. s.maybe) f)
say_same (x ∷ xs) (y ∷ ys) e (suc n) = let f : map shown xs ≡ map shown ys = cc in say_same xs ys f n

each_local : (f g : FactsForm) → ((x : ℕ) → f.types x ≡ g.types x) →
    ((x : ℕ) → f.surely_assigned x ≡ g.surely_assigned x) →
    ((x : ℕ) → f.maybe_assigned x ≡ g.maybe_assigned x) → f ≡ g
each_local f g p q r = λ i. record { types = λ x. p x i; surely_assigned = λ x. q x i; maybe_assigned = λ x. r x i }

pub same_facts : (xs ys : List LocalFacts) → map shown xs ≡ map shown ys → form_of xs ≡ form_of ys
same_facts xs ys e =
    each_local (form_of xs) (form_of ys) (λ n. (say_same xs ys e n).0) (λ n. (say_same xs ys e n).1)
    (λ n. (say_same xs ys e n).2)
