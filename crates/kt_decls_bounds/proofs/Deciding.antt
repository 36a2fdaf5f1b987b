-- Loops that decide whether something holds of each element of a list.
use Rattle.std.proofs.Common.{ℕ, ◌+◌, ◌<◌, ◌≤◌, Bool, true, false, ◌≡◌, refl, sym, ap, subst, ◌∙◌, List, [], ◌∷◌, length, get_or, drop, arith}
use Rattle.std.specs.Prelude.{IsTrue, ◌↔◌, Result, Ok, Err, IfOk}
use Rattle.kt_base.specs.declared.errors.NoMemory.{NoMemory}
use Rattle.std.proofs.lemmas.List.{drop_more, drop_all}

clash : IsTrue false → ⊥
clash e = cc

-- the next element stands before those behind it
pub next : {X A : Type 0} (P : List X → Type 0) (xs : List X) (i : ℕ) (x : X) → i < length xs → x ≡ get_or xs i x → (A ↔ P (drop i xs)) → A ↔ P (x ∷ drop (i + 1) xs)
next {X} {A} P xs i x lt e s = subst (λ l. A ↔ P l) (drop_more xs i x lt ∙ ap (λ y. y ∷ drop (i + 1) xs) (sym e)) s

pub stops : {A H R : Type 0} (b : Bool) → (A ↔ (H × R)) → (IsTrue b ↔ H) → b ≡ false → IsTrue false ↔ A
stops b s h e = ((λ t. absurd (clash t)), (λ a. absurd (clash (subst IsTrue e (h.1 (s.0 a).0)))))

pub goes : {A H R : Type 0} (b : Bool) → (A ↔ (H × R)) → (IsTrue b ↔ H) → b ≡ true → A ↔ R
goes b s h e = ((λ a. (s.0 a).1), (λ r. s.1 (h.0 e, r)))

pub ends : {X A : Type 0} (P : List X → Type 0) (xs : List X) (i : ℕ) → length xs ≤ i → P [] → (A ↔ P (drop i xs)) → IsTrue true ↔ A
ends {X} {A} P xs i le all s = let e : drop i xs ≡ [] = drop_all i xs le in ((λ _. s.1 (subst P (sym e) all)), (λ _. refl))

-- what is decided by two tests, one behind the other
pub both : {H R : Type 0} (a b : Bool) → (IsTrue a ↔ H) → a ≡ true → (IsTrue b ↔ R) → IsTrue b ↔ (H × R)
both a b h e r = ((λ t. (h.0 e, r.0 t)), (λ p. r.1 p.1))

pub not_first : {H R : Type 0} (a : Bool) → (IsTrue a ↔ H) → a ≡ false → IsTrue false ↔ (H × R)
not_first a h e = ((λ t. absurd (clash t)), (λ p. absurd (clash (subst IsTrue e (h.1 p.0)))))

pub always : {A : Type 0} → A → IsTrue true ↔ A
always a = ((λ _. a), (λ _. refl))

pub never : {A : Type 0} → (A → ⊥) → IsTrue false ↔ A
never f = ((λ t. absurd (clash t)), (λ a. absurd (f a)))

-- what is asked only under a condition
pub asked : {E : Type 0} (P : Type 0) (r : Result Bool NoMemory) → E → IfOk r (λ yes. IsTrue yes ↔ P) → IfOk r (λ yes. IsTrue yes ↔ (E → P))
asked P (Ok b) e p = ((λ t _. p.0 t), (λ f. p.1 (f e)))
asked P (Err x) e p = tt

pub not_asked : {E P : Type 0} (b : Bool) → (E → IsTrue b) → b ≡ false → IsTrue true ↔ (E → P)
not_asked b f e = always (λ x. absurd (clash (subst IsTrue e (f x))))

-- a second test behind a first that holds
pub after : {A : Type 0} (B : Type 0) (a : Bool) (r : Result Bool NoMemory) → (IsTrue a ↔ A) → a ≡ true → IfOk r (λ yes. IsTrue yes ↔ B) → IfOk r (λ yes. IsTrue yes ↔ (A × B))
after B a (Ok b) h e p = both a b h e p
after B a (Err x) h e p = tt

-- the same said of something else
pub turned : (A B : Type 0) (r : Result Bool NoMemory) → (A ↔ B) → IfOk r (λ yes. IsTrue yes ↔ A) → IfOk r (λ yes. IsTrue yes ↔ B)
turned A B (Ok b) s p = ((λ t. s.0 (p.0 t)), (λ x. p.1 (s.1 x)))
turned A B (Err x) s p = tt
