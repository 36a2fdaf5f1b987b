-- What each of several things means, where each has a meaning.
use Rattle.std.specs.Prelude.{List, [], ◌∷◌, ◌++◌, Option, Some, None}
use Rattle.kt_decls_types.specs.References.{then_on}

abbrev pub first_then : {A : Type 0} → A → Option (List A) → Option (List A)
first_then x None = None
first_then x (Some xs) = Some (x ∷ xs)

abbrev pub all_meant : {A B : Type 0} → (A → Option B) → List A → Option (List B)
all_meant f [] = Some []
all_meant f (x ∷ xs) = then_on (f x) (λ y. first_then y (all_meant f xs))

-- what is left, behind what is done
abbrev pub behind : {A : Type 0} → List A → Option (List A) → Option (List A)
behind done None = None
behind done (Some xs) = Some (done ++ xs)
