-- Tests, joined.
use Rattle.std.proofs.Common.{ℕ, zero, suc, List, [], ◌∷◌, Some, ◌≡◌, refl, Bool, true, false, inl, inr, ◌⊎◌}
use Rattle.std.specs.Prelude.{◌||◌, ◌&&◌, slice_get, IsTrue, ◌↔◌}
use Rattle.std.specs.List.{list_any}

pub both_true : (a b : Bool) → (a && b) ≡ true → (a ≡ true) × (b ≡ true)
both_true true b e = (refl, e)
both_true false b e = cc

pub one_true : (a b : Bool) → (a || b) ≡ true → (a ≡ true) ⊎ (b ≡ true)
one_true true b e = inl refl
one_true false b e = inr e

pub left_true : (a b : Bool) → a ≡ true → (a || b) ≡ true
left_true a b e = rw e refl

pub right_true : (a b : Bool) → b ≡ true → (a || b) ≡ true
right_true true b e = refl
right_true false b e = e

pub true_or_false : (b : Bool) → (b ≡ true) ⊎ (b ≡ false)
true_or_false true = inl refl
true_or_false false = inr refl

pub not_both : {A : Type 0} (b : Bool) → b ≡ true → b ≡ false → A
not_both b e f = cc

-- one of several passes
pub any_found : {A : Type 0} (test : A → Bool) (xs : List A) → list_any test xs ≡ true →
    (i : ℕ) × ((x : A) × ((slice_get xs i ≡ Some x) × (test x ≡ true)))
any_found test [] e = cc
any_found test (x ∷ xs) e = elim (one_true (test x) (list_any test xs) e) [
  | inl f ↦ (0, (x, (refl, f)))
  | inr f ↦ let r = any_found test xs f in (suc r.0, (r.1.0, r.1.1))
]

pub any_there : {A : Type 0} (test : A → Bool) (xs : List A) (i : ℕ) (x : A) → slice_get xs i ≡ Some x →
    test x ≡ true → list_any test xs ≡ true
any_there test [] i x e f = cc
any_there test (y ∷ xs) zero x e f = let g : y ≡ x = cc in left_true (test y) (list_any test xs) (rw g f)
any_there test (y ∷ xs) (suc i) x e f = right_true (test y) (list_any test xs) (any_there test xs i x e f)

-- two tests of one thing are one
pub same_test : {A : Type 0} (a b : Bool) → IsTrue a ↔ A → IsTrue b ↔ A → a ≡ b
same_test true true f g = refl
same_test true false f g = let e : false ≡ true = g.1 (f.0 refl) in cc
same_test false true f g = let e : false ≡ true = f.1 (g.0 refl) in cc
same_test false false f g = refl
