-- Rows that are known not to lead back to themselves.
use Rattle.std.specs.Prelude.{ℕ, suc, ◌≡◌, Bool, true, false, List, [], ◌∷◌, length, ◌≤◌, Some, slice_get}
use Rattle.kt_types_order.specs.Graph.{Graph, Leads, Reaches}

abbrev pub IsDone : List Bool → ℕ → Type 0
IsDone done c = slice_get done c ≡ Some false → ⊥

-- what a done row leads to is done, and no done row leads back to itself
pub record IsSettled (g : Graph) (done : List Bool) : Type 0 where
  pub closed : (c d : ℕ) → IsDone done c → Leads g c d → IsDone done d
  pub grounded : (c : ℕ) → IsDone done c → Reaches g c c → ⊥

-- the first of a list, and then of what stands behind
abbrev pub first_of : List ℕ → ℕ → ℕ
first_of [] c = c
first_of (x ∷ xs) c = x

-- each one leads to the next
abbrev pub IsTrail : Graph → List ℕ → ℕ → Type 0
IsTrail g [] c = Unit {0}
IsTrail g (x ∷ xs) c = Leads g x (first_of xs c) × IsTrail g xs c

abbrev pub AreOpen : List Bool → List ℕ → Type 0
AreOpen done [] = Unit {0}
AreOpen done (x ∷ xs) = (slice_get done x ≡ Some false) × AreOpen done xs

abbrev pub one_if_open : Bool → ℕ → ℕ
one_if_open true n = n
one_if_open false n = suc n

abbrev pub open_count : List Bool → ℕ
open_count [] = 0
open_count (b ∷ bs) = one_if_open b (open_count bs)

-- all rows of a list are done
abbrev pub AreLinksDone : List ℕ → List Bool → Type 0
AreLinksDone links done = (i d : ℕ) → slice_get links i ≡ Some d → IsDone done d

-- a row of a list that isn't done
abbrev pub IsOpenLink : List ℕ → List Bool → ℕ → Type 0
IsOpenLink links done d = (i : ℕ) × ((slice_get links i ≡ Some d) × (slice_get done d ≡ Some false))

-- how far the walk has come
pub record IsSettling (g : Graph) (before : List Bool) (first : ℕ) (done : List Bool) (waiting : List ℕ)
    (c : ℕ) : Type 0 where
  pub settled : IsSettled g done
  pub kept : (d : ℕ) → IsDone before d → IsDone done d
  pub trail : IsTrail g waiting c
  pub waits : AreOpen done waiting
  pub open_here : slice_get done c ≡ Some false
  pub few : length waiting ≤ length g
  pub bottom : first_of waiting c ≡ first
