-- What is found at the front of bytes, and what is left.
use Rattle.std.proofs.Common.{◌≡◌, ℕ, List, Option, Some, sym, ap, ◌∙◌}

pub pair_is : {A : Type 0} (o : Option (A × List ℕ)) (x y : A) (a b : List ℕ) → o ≡ Some (x, a) → o ≡ Some (y, b) → (x ≡ y) × (a ≡ b)
pair_is {A} o x y a b p q =
    let e : ◌≡◌ {A = Option (A × List ℕ)} (Some (x, a)) (Some (y, b)) = sym p ∙ q in
    let both : ◌≡◌ {A = A × List ℕ} (x, a) (y, b) = cc in
    (ap (λ (p : A × List ℕ). p.0) both, ap (λ (p : A × List ℕ). p.1) both)
