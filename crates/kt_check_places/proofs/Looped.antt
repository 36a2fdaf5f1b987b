-- Where a loop begins.
use Rattle.std.proofs.Common.{ℕ, List, [], ◌∷◌, ◌≡◌, refl, ap, map, length}
use Rattle.kt_typed.specs.Operators.{local_form}
use Rattle.kt_check_rules.specs.Loops.{repeated}
use Rattle.kt_check_rules.specs.States.{Named}
use Rattle.kt_check_names.specs.declared.known.Known.{Known}
use Rattle.kt_check_names.specs.Views.{state_of}

length_map : {A B : Type 0} (f : A → B) (xs : List A) → length xs ≡ length (map f xs)
length_map f [] = refl
length_map f (x ∷ xs) = rw (length_map f xs) refl

pub repeated_is : (scope : List Named) (declared : List (List ℕ)) (outside before : ℕ) (k : Known) →
    outside ≡ length k.locals →
    state_of scope declared outside k ≡ repeated (state_of scope declared before k)
repeated_is scope declared outside before k e = ap (λ n. state_of scope declared n k) (rw e (length_map local_form k.locals))
