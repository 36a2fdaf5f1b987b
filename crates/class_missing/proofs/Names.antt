-- The names in a descriptor, one by one.
use Rattle.std.proofs.Common.{ℕ, zero, suc, ◌-◌, ◌≡◌, refl, List, Option, None, arith, subst}
use Rattle.class_members.specs.declared.hierarchy.Hierarchy.{Hierarchy}
use Rattle.class_missing.specs.Missing.{first_name, missing_within, named_missing}

pub none_left : (h : Hierarchy) (n : ℕ) (bytes : List ℕ) → n ≡ 0 → missing_within h n bytes ≡ None
unfolding missing_within
none_left h zero bytes e = refl
none_left h (suc n) bytes e = absurd (omega arith)

pub one_more : (h : Hierarchy) (n : ℕ) (bytes : List ℕ) → (n ≡ 0 → ⊥) → missing_within h n bytes ≡ named_missing h (first_name bytes) (missing_within h (n - 1))
unfolding missing_within
one_more h zero bytes f = absurd (f refl)
one_more h (suc n) bytes f =
    let e : n ≡ suc n - 1 = omega arith in
    subst (λ m. missing_within h (suc n) bytes ≡ named_missing h (first_name bytes) (missing_within h m)) e refl
