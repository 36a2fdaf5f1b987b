-- The first of several that is allowed.
use Rattle.std.specs.Prelude.{List, [], ◌∷◌, Option, Some, None, map, ◌≡◌, ◌⊎◌}
use Rattle.std.specs.List.{flat_map}

abbrev pub IsFirst : {A : Type 0} → (A → Type 0) → List A → A → Type 0
IsFirst Allows [] x = ⊥
IsFirst Allows (y ∷ ys) x = (Allows y × (y ≡ x)) ⊎ ((Allows y → ⊥) × IsFirst Allows ys x)

abbrev pub or_else : {A : Type 0} → Option A → Option A → Option A
or_else (Some a) o = Some a
or_else None o = o

-- what the first one gives that gives something
abbrev pub first_some : {A B : Type 0} → (A → Option B) → List A → Option B
first_some give [] = None
first_some give (x ∷ xs) = or_else (give x) (first_some give xs)

-- all pairs; the choice for the left one counts first
abbrev pub pairs : {A B : Type 0} → List A → List B → List (A × B)
pairs xs ys = flat_map (λ x. map (λ y. (x, y)) ys) xs

abbrev pub first_of : {A : Type 0} → List A → Option A
first_of [] = None
first_of (x ∷ xs) = Some x

abbrev pub then_on : {A B : Type 0} → Option A → (A → Option B) → Option B
then_on None go = None
then_on (Some a) go = go a
