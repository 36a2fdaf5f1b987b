-- What is decided by two tests, one behind the other.
use Rattle.std.proofs.Common.{◌≡◌, Bool, true, false, refl, subst}
use Rattle.std.specs.Prelude.{IsTrue, ◌↔◌}

clash : IsTrue false → ⊥
clash e = cc

pub refused : {A : Type 0} (a : Bool) → (IsTrue a ↔ A) → a ≡ false → A → ⊥
refused a h e x = clash (subst IsTrue e (h.1 x))

pub holds : {A : Type 0} (a : Bool) → (IsTrue a ↔ A) → a ≡ true → A
holds a h e = h.0 e

pub both : {H R : Type 0} (a b : Bool) → (IsTrue a ↔ H) → a ≡ true → (IsTrue b ↔ R) → IsTrue b ↔ (H × R)
both a b h e r = ((λ t. (h.0 e, r.0 t)), (λ p. r.1 p.1))

pub not_first : {H R : Type 0} (a : Bool) → (IsTrue a ↔ H) → a ≡ false → IsTrue false ↔ (H × R)
not_first a h e = ((λ t. absurd (clash t)), (λ p. absurd (clash (subst IsTrue e (h.1 p.0)))))

pub always : {A : Type 0} → A → IsTrue true ↔ A
always a = ((λ _. a), (λ _. refl))

pub never : {A : Type 0} → (A → ⊥) → IsTrue false ↔ A
never f = ((λ t. absurd (clash t)), (λ a. absurd (f a)))

pub asked : {E P : Type 0} (b : Bool) → E → (IsTrue b ↔ P) → IsTrue b ↔ (E → P)
asked b e p = ((λ t _. p.0 t), (λ f. p.1 (f e)))
