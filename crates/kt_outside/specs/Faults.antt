-- How counts and lists of faults grow.
use Rattle.std.specs.Prelude.{◌≡◌, ℕ, ◌-◌, ◌^◌, ◌<◌, List, [], ◌∷◌, ◌++◌, ◌⊎◌}

-- the count rose; at the greatest number that it can have it counts as risen
abbrev pub Rose : ℕ → ℕ → Type 0
Rose before after = (before < after) ⊎ (after ≡ 2 ^ 64 - 1)

-- the name was added to the list
abbrev pub Adds : List ℕ → List (List ℕ) → List (List ℕ) → Type 0
Adds name before after = after ≡ before ++ name ∷ []

-- the name was added to the list, or nothing was
abbrev pub MayAdd : List ℕ → List (List ℕ) → List (List ℕ) → Type 0
MayAdd name before after = (after ≡ before) ⊎ Adds name before after
