-- The tests decide what they test.
use Rattle.std.proofs.Common.{◌≡◌, ◌≤◌, ◌<◌, ℕ, ◌+◌, Bool, true, false, ◌&&◌, List, [], ◌∷◌, ◌++◌, nat_le, refl, arith}
use Rattle.std.proofs.lemmas.Bool.Decides.{nat_tests}
use Rattle.std.specs.List.{list_all, AllByRecursion}
use Rattle.kt_typed.specs.Bodies.{FunForm}
use Rattle.kt_limits.specs.Limits as limits
use Rattle.kt_limits.specs.Limits.{Part, IsFine, IsFineLambda, AreShort, FitConstants}
use Rattle.kt_limits.specs.Noting.{is_short, fits_constant, is_fine_lambda}
use Rattle.kt_limits.specs.Walking.{is_fine}

pub is_at_most : (m n : ℕ) → nat_le m n ≡ true → m ≤ n
is_at_most m n e = grind (arith, nat_tests)

pub at_most_is : (m n : ℕ) → m ≤ n → nat_le m n ≡ true
at_most_is m n le = grind (arith, nat_tests)

pub both_true : (a b : Bool) → (a && b) ≡ true → (a ≡ true) × (b ≡ true)
both_true true b e = (refl, e)
both_true false b e = absurd cc

pub true_both : (a b : Bool) → a ≡ true → b ≡ true → (a && b) ≡ true
true_both a b e d = cc

pub all_hold : {X : Type 0} (P : X → Type 0) (p : X → Bool) → ((x : X) → p x ≡ true → P x) → (xs : List X) → list_all p xs ≡ true
    → AllByRecursion P xs
all_hold P p one [] e = tt
all_hold P p one (x ∷ xs) e =
    let both = both_true (p x) (list_all p xs) e in (one x both.0, all_hold P p one xs both.1)

pub hold_all : {X : Type 0} (P : X → Type 0) (p : X → Bool) → ((x : X) → P x → p x ≡ true) → (xs : List X) → AllByRecursion P xs
    → list_all p xs ≡ true
hold_all P p one [] e = refl
hold_all P p one (x ∷ xs) e = true_both (p x) (list_all p xs) (one x e.0) (hold_all P p one xs e.1)

are_short : (names : List (List ℕ)) → list_all is_short names ≡ true → AreShort names
are_short names e = all_hold _ is_short (λ x d. is_at_most _ _ d) names e

short_are : (names : List (List ℕ)) → AreShort names → list_all is_short names ≡ true
short_are names e = hold_all _ is_short (λ x d. at_most_is _ _ d) names e

lambda_sound : (f : FunForm) → is_fine_lambda f ≡ true → IsFineLambda f
lambda_sound f e =
    let a = both_true _ _ e in
    let b = both_true _ _ a.1 in
    let c = both_true _ _ b.1 in
    record {
      weight = is_at_most _ _ a.0;
      parameters = is_at_most _ _ b.0;
      captures = is_at_most _ _ c.0;
      identifiers = are_short _ c.1;
    }

lambda_complete : (f : FunForm) → IsFineLambda f → is_fine_lambda f ≡ true
lambda_complete f is =
    true_both _ _ (at_most_is _ _ is.weight)
    (true_both _ _ (at_most_is _ _ is.parameters)
    (true_both _ _ (at_most_is _ _ is.captures) (short_are _ is.identifiers)))

pub sound : (p : Part) → is_fine p ≡ true → IsFine p
sound p e =
    let a = both_true _ _ e in
    let b = both_true _ _ a.1 in
    let c = both_true _ _ b.1 in
    let d = both_true _ _ c.1 in
    record {
      weight = is_at_most _ _ a.0;
      parameters = is_at_most _ _ b.0;
      identifiers = are_short _ c.0;
      texts = all_hold _ fits_constant (λ x t. is_at_most _ _ t) p.texts d.0;
      lambdas = all_hold _ is_fine_lambda lambda_sound p.lambdas d.1;
    }

pub complete : (p : Part) → IsFine p → is_fine p ≡ true
complete p is =
    true_both _ _ (at_most_is _ _ is.weight)
    (true_both _ _ (at_most_is _ _ is.parameters)
    (true_both _ _ (short_are _ is.identifiers)
    (true_both _ _ (hold_all _ fits_constant (λ x t. at_most_is _ _ t) p.texts is.texts)
    (hold_all _ is_fine_lambda lambda_complete p.lambdas is.lambdas))))
