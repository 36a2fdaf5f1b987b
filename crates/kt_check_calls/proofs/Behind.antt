-- Arguments behind others.
use Rattle.std.proofs.Common.{List, [], ◌∷◌, ◌++◌, ◌≡◌, refl, ap, sym}
use Rattle.kt_typed.specs.Bodies.{ExpressionForm}
use Rattle.kt_check_rules.specs.States.{State}
use Rattle.kt_check_deciding.specs.Outcomes.{Outcome, found, none, unbuilt, Reading, reading, then_go}
use Rattle.kt_check_calls.specs.Lists.{behind_others}

append_nil : {A : Type 0} (xs : List A) → xs ++ [] ≡ xs
append_nil [] = refl
append_nil (x ∷ xs) = ap (◌∷◌ x) (append_nil xs)

append_assoc : {A : Type 0} (xs : List A) (y : A) (zs : List A) → (xs ++ y ∷ []) ++ zs ≡ xs ++ y ∷ zs
append_assoc [] y zs = refl
append_assoc (x ∷ xs) y zs = ap (◌∷◌ x) (append_assoc xs y zs)

pub none_behind : (done : List ExpressionForm) (s : State) →
    behind_others done (found (reading [] s)) ≡ found (reading done s)
none_behind done s = ap (λ us. found (reading us s)) (append_nil done)

pub one_behind : (done : List ExpressionForm) (u : ExpressionForm) (o : Outcome (Reading (List ExpressionForm))) →
    behind_others done (then_go o (λ y. found (reading (u ∷ y.value) y.behind)))
    ≡ behind_others (done ++ u ∷ []) o
one_behind done u (found y) = ap (λ us. found (reading us y.behind)) (sym (append_assoc done u y.value))
one_behind done u none = refl
one_behind done u unbuilt = refl

pub first_behind : (o : Outcome (Reading (List ExpressionForm))) → behind_others [] o ≡ o
first_behind (found y) = refl
first_behind none = refl
first_behind unbuilt = refl
