-- The first element that passes a test, where it stands, and what a change of the list does to it.
use Rattle.std.proofs.Common.{◌≡◌, ℕ, zero, suc, ◌<◌, ◌≤◌, Bool, true, false, cond, List, [], ◌∷◌, ◌++◌, Option, Some, None, length, get_or, refl, sym, ap, ◌∙◌, ⊎_elim, arith}
use Rattle.std.proofs.Math.ListN.{set}
use borrow.Author.Tests.{lt-ltb}
use Rattle.std.specs.Prelude.{find, position, slice_get}
use Rattle.std.specs.List.{position_or_len}
use Rattle.std.proofs.lemmas.List.Folds.{find_at}
use Rattle.std.proofs.lemmas.List.Quantifiers.{position-Some}
use Rattle.std.proofs.lemmas.Option.{slice_get_cases}

apart : (i : ℕ) → Some i ≡ None → ⊥
apart i h = cc

passed_by : {X : Type 0} (b : Bool) (x : X) (rest : Option X) → cond b (Some x) rest ≡ None → (b ≡ false) × (rest ≡ None)
passed_by true x rest h = cc
passed_by false x rest h = (refl, h)

module _ {X : Type 0} (p : X → Bool) where
  find_first : (xs : List X) (i : ℕ) (d : X) → i < length xs → p (get_or xs i d) ≡ true → ((k : ℕ) → k < i → p (get_or xs k d) ≡ false)
      → find p xs ≡ Some (get_or xs i d)
  find_first [] i d within here below = absurd (omega arith)
  find_first (x ∷ xs) zero d within here below = rw here refl
  find_first (x ∷ xs) (suc i) d within here below =
      let no : p x ≡ false = below 0 (omega arith) in
      rw no (find_first xs i d (omega arith) here (λ k h. below (suc k) (omega arith)))

  set_first : (xs : List X) (i : ℕ) (d y : X) → i < length xs → p y ≡ true → ((k : ℕ) → k < i → p (get_or xs k d) ≡ false)
      → find p (set xs i y) ≡ Some y
  set_first [] i d y within here below = absurd (omega arith)
  set_first (x ∷ xs) zero d y within here below = rw here refl
  set_first (x ∷ xs) (suc i) d y within here below =
      let no : p x ≡ false = below 0 (omega arith) in
      rw no (set_first xs i d y (omega arith) here (λ k h. below (suc k) (omega arith)))

  -- the first that passes is the one at its place
  pub find_placed : (xs : List X) (i : ℕ) (d : X) → position p xs ≡ Some i → find p xs ≡ Some (get_or xs i d)
  find_placed xs i d is = let at = position-Some p xs i d is in find_first xs i d at.0 at.1 at.2

  -- what stands at the place of the first passes
  pub placed_passes : (xs : List X) (i : ℕ) (d : X) → position p xs ≡ Some i → p (get_or xs i d) ≡ true
  placed_passes xs i d is = (position-Some p xs i d is).1

  -- where there is no place, there is none that passes
  pub find_none : (xs : List X) → position p xs ≡ None → find p xs ≡ None
  find_none xs is =
      let i = position_or_len p xs in
      find_at p xs ∙ ⊎_elim
      (λ (w : (x : X) × (i < length xs) × (slice_get xs i ≡ Some x) × (get_or xs i x ≡ x)). absurd (apart i (sym (ap (λ b. cond b (Some i) None) (lt-ltb i (length xs) w.1)) ∙ is)))
      (λ (w : (length xs ≤ i) × (slice_get xs i ≡ None)). w.1)
      (slice_get_cases xs i).1

  -- the first that passes is replaced by one that passes
  pub find_set : (xs : List X) (i : ℕ) (d y : X) → position p xs ≡ Some i → p y ≡ true → find p (set xs i y) ≡ Some y
  find_set xs i d y is here = let at = position-Some p xs i d is in set_first xs i d y at.0 here at.2

  -- one that doesn't pass is replaced by one that doesn't
  pub find_set_other : (xs : List X) (i : ℕ) (d y : X) → p y ≡ false → p (get_or xs i d) ≡ false → find p (set xs i y) ≡ find p xs
  find_set_other [] i d y new old = refl
  find_set_other (x ∷ xs) zero d y new old = rw (new, old) refl
  find_set_other (x ∷ xs) (suc i) d y new old = ap (λ o. cond (p x) (Some x) o) (find_set_other xs i d y new old)

  -- where none passes, the first that passes is the new one
  pub find_push : (xs : List X) (y : X) → find p xs ≡ None → p y ≡ true → find p (xs ++ y ∷ []) ≡ Some y
  find_push [] y is here = rw here refl
  find_push (x ∷ xs) y is here =
      let no = passed_by (p x) x (find p xs) is in
      ap (λ b. cond b (Some x) (find p (xs ++ y ∷ []))) no.0 ∙ find_push xs y no.1 here

  -- a new one that doesn't pass changes nothing
  pub find_push_other : (xs : List X) (y : X) → p y ≡ false → find p (xs ++ y ∷ []) ≡ find p xs
  find_push_other [] y new = rw new refl
  find_push_other (x ∷ xs) y new = ap (λ o. cond (p x) (Some x) o) (find_push_other xs y new)
