-- A search from one row: what was seen leads to what was seen or waits.
use Rattle.std.specs.Prelude.{ℕ, ◌≡◌, ◌<◌, ◌⊎◌, ◌+◌, Bool, true, List, [], ◌∷◌, length, Some, None, slice_get}
use Rattle.kt_types_order.specs.Graph.{Graph, Leads, Reaches}

abbrev pub Has : ℕ → List ℕ → Type 0
Has d [] = ⊥
Has d (x ∷ xs) = (d ≡ x) ⊎ Has d xs

-- seen, or waiting, or no row
abbrev pub IsMet : List Bool → List ℕ → ℕ → Type 0
IsMet seen waiting d = (slice_get seen d ≡ Some true) ⊎ (Has d waiting ⊎ (slice_get seen d ≡ None))

pub record IsSearch (g : Graph) (row : ℕ) (seen : List Bool) (waiting : List ℕ) : Type 0 where
  pub long : length seen ≡ length g
  pub found : (d : ℕ) → Has d waiting → Reaches g row d
  pub begun : (d : ℕ) → Leads g row d → IsMet seen waiting d
  pub other : (d : ℕ) → slice_get seen d ≡ Some true → d ≡ row → ⊥
  pub closed : (d e : ℕ) → slice_get seen d ≡ Some true → Leads g d e → IsMet seen waiting e

abbrev pub link_count : Graph → ℕ
link_count [] = 0
link_count (links ∷ g) = length links + link_count g

-- the first row that leads back to itself
abbrev pub IsFirstOnCycle : Graph → ℕ → Type 0
IsFirstOnCycle g c = Reaches g c c × ((d : ℕ) → d < c → Reaches g d d → ⊥)
