-- A search from one row: what was seen leads to what was seen or waits.
use Rattle.std.specs.Prelude.{ℕ, suc, zero, ◌≡◌, ◌⊎◌, ◌+◌, Bool, true, false, List, [], ◌∷◌, ◌++◌, length, Option, Some, None, slice_get}
use Rattle.class_supers.specs.Graph.{Graph, Leads, IsUnder}

abbrev pub Waits : ℕ → List ℕ → Type 0
Waits d [] = ⊥
Waits d (x ∷ xs) = (d ≡ x) ⊎ Waits d xs

-- seen, or waiting, or no row
abbrev pub IsMet : List Bool → List ℕ → ℕ → Type 0
IsMet seen waiting d = (slice_get seen d ≡ Some true) ⊎ (Waits d waiting ⊎ (slice_get seen d ≡ None))

pub record IsSearch (g : Graph) (start : ℕ) (seen : List Bool) (waiting : List ℕ) : Type 0 where
  pub long : length seen ≡ length g
  pub found : (d : ℕ) → Waits d waiting → IsUnder g start d
  pub under : (d : ℕ) → slice_get seen d ≡ Some true → IsUnder g start d
  pub begun : IsMet seen waiting start
  pub closed : (d e : ℕ) → slice_get seen d ≡ Some true → Leads g d e → IsMet seen waiting e

-- what a search has seen when it ends
pub record IsReached (g : Graph) (start : ℕ) (seen : List Bool) : Type 0 where
  pub long : length seen ≡ length g
  pub under : (d : ℕ) → slice_get seen d ≡ Some true → IsUnder g start d
  pub all : (d : ℕ) → IsUnder g start d → slice_get seen d ≡ Some false → ⊥

-- the places of what is true, below a number
abbrev pub mark_at : Option Bool → Bool
mark_at None = false
mark_at (Some b) = b

abbrev pub when : Bool → ℕ → List ℕ
when true i = i ∷ []
when false i = []

unfoldable pub marked_below : ℕ → List Bool → List ℕ
marked_below zero seen = []
marked_below (suc i) seen = marked_below i seen ++ when (mark_at (slice_get seen i)) i

abbrev pub link_count : Graph → ℕ
link_count [] = 0
link_count (links ∷ g) = length links + link_count g

abbrev pub open_count : List Bool → ℕ
open_count [] = 0
open_count (true ∷ bs) = open_count bs
open_count (false ∷ bs) = suc (open_count bs)
