-- Rows that lead to one another, as classes to those directly above them.
use Rattle.std.specs.Prelude.{◌≡◌, ℕ, ◌<◌, ◌≤◌, suc, ◌==◌, Bool, true, List, [], ◌∷◌, Option, Some, None, length, slice_get}
use Rattle.std.specs.List.{list_any}

-- for each row the rows to which it leads
abbrev pub Graph : Type 0
Graph = List (List ℕ)

abbrev pub row_or_none : Option (List ℕ) → List ℕ
row_or_none None = []
row_or_none (Some row) = row

abbrev pub Leads : Graph → ℕ → ℕ → Type 0
Leads g c d = (i : ℕ) × (slice_get (row_or_none (slice_get g c)) i ≡ Some d)

-- by any number of steps
pub data IsUnder (g : Graph) : ℕ → ℕ → Type 0 where
  same : {c d : ℕ} → c ≡ d → IsUnder g c d
  up : {c d e : ℕ} → Leads g c d → IsUnder g d e → IsUnder g c e

-- by one step or more
abbrev pub IsAboveItself : Graph → ℕ → Type 0
IsAboveItself g c = (d : ℕ) × Leads g c d × IsUnder g d c

abbrev pub HasNoCycle : Graph → Type 0
HasNoCycle g = (c : ℕ) → IsAboveItself g c → ⊥

abbrev pub IsFirstOnCycle : Graph → ℕ → Type 0
IsFirstOnCycle g c = IsAboveItself g c × ((d : ℕ) → d < c → IsAboveItself g d → ⊥)

-- each number is at least this one, and greater than the one before it
abbrev pub Ascends : ℕ → List ℕ → Type 0
Ascends k [] = Unit {0}
Ascends k (x ∷ xs) = (k ≤ x) × Ascends (suc x) xs

abbrev pub Has : List ℕ → ℕ → Type 0
Has row d = list_any (λ x. x == d) row ≡ true

-- whether a row reaches another, by what each reaches
abbrev pub reaches : List (List ℕ) → ℕ → ℕ → Bool
reaches rows high low = list_any (λ x. x == high) (row_or_none (slice_get rows low))

-- the rows that one reaches, itself among them, ascending
pub record AreSupers (g : Graph) (c : ℕ) (row : List ℕ) : Type 0 where
  pub ascending : Ascends 0 row
  pub each : (d : ℕ) → Has row d → IsUnder g c d × (d < length g)
  pub all : (d : ℕ) → IsUnder g c d → d < length g → Has row d

-- the same of every row
pub record AreAllSupers (g : Graph) (rows : List (List ℕ)) : Type 0 where
  pub long : length rows ≡ length g
  pub each : (c : ℕ) (row : List ℕ) → slice_get rows c ≡ Some row → AreSupers g c row
