-- Marks that are set.
use Rattle.std.proofs.Common.{ℕ, suc, zero, Bool, true, false, ◌≡◌, refl, sym, ap, subst, ◌∙◌, ◌⊎◌, inl, inr, List, [], ◌∷◌, Some, arith}
use Rattle.std.specs.Prelude.{slice_get, slice_set}
use Rattle.kt_types_cycles.specs.Settled.{IsDone, open_count}

pub either_way : (c d : ℕ) → (c ≡ d) ⊎ (c ≡ d → ⊥)
either_way zero zero = inl refl
either_way zero (suc d) = inr (λ e. omega arith)
either_way (suc c) zero = inr (λ e. omega arith)
either_way (suc c) (suc d) = elim (either_way c d) [ inl e ↦ inl (ap suc e) | inr f ↦ inr (λ e. f (omega arith)) ]

pub set_other : (done : List Bool) (c d : ℕ) → (c ≡ d → ⊥) → slice_get (slice_set done c true) d ≡ slice_get done d
set_other [] c d h = refl
set_other (x ∷ xs) zero zero h = absurd (h refl)
set_other (x ∷ xs) zero (suc d) h = refl
set_other (x ∷ xs) (suc c) zero h = refl
set_other (x ∷ xs) (suc c) (suc d) h = set_other xs c d (λ e. h (ap suc e))

pub set_count : (done : List Bool) (c : ℕ) → slice_get done c ≡ Some false → open_count done ≡ suc (open_count (slice_set done c true))
set_count [] c h = cc
set_count (true ∷ xs) zero h = cc
set_count (false ∷ xs) zero h = refl
set_count (true ∷ xs) (suc c) h = set_count xs c h
set_count (false ∷ xs) (suc c) h = ap suc (set_count xs c h)

pub not_open : (done : List Bool) (c : ℕ) → slice_get (slice_set done c true) c ≡ Some false → ⊥
not_open [] c h = cc
not_open (x ∷ xs) zero h = cc
not_open (x ∷ xs) (suc c) h = not_open xs c h

pub done_stays : (done : List Bool) (c d : ℕ) → IsDone done d → IsDone (slice_set done c true) d
done_stays done c d h e = elim (either_way c d) [
  | inl f ↦ not_open done c (subst (λ x. slice_get (slice_set done c true) x ≡ Some false) (sym f) e)
  | inr f ↦ h (sym (set_other done c d f) ∙ e)
]

pub was_done : (done : List Bool) (c d : ℕ) → (c ≡ d → ⊥) → IsDone (slice_set done c true) d → IsDone done d
was_done done c d f h e = h (set_other done c d f ∙ e)
