-- How far the marking of a graph has come.
use Rattle.std.specs.Prelude.{ℕ, suc, Bool, true, false, List, [], ◌∷◌, ◌||◌, ◌≡◌, length, slice_get, Some}
use Rattle.std.specs.List.{list_any}
use Rattle.kt_types.specs.Kinds.{flag}
use Rattle.kt_types_order.specs.Graph.{Graph, row_or_none}
use Rattle.kt_decls_hierarchy.specs.Marks.{marked_within}

-- a row is marked itself, or leads at once to one that was marked
abbrev pub is_due : Graph → List Bool → List Bool → ℕ → Bool
is_due g own marks row = flag own row || list_any (flag marks) (row_or_none (slice_get g row))

-- it is marked where it is to be
abbrev pub IsClosed : Graph → List Bool → List Bool → ℕ → Type 0
IsClosed g own marks row = is_due g own marks row ≡ true → slice_get marks row ≡ Some false → ⊥

abbrev pub one_if_set : Bool → ℕ → ℕ
one_if_set true n = suc n
one_if_set false n = n

abbrev pub set_count : List Bool → ℕ
set_count [] = 0
set_count (b ∷ bs) = one_if_set b (set_count bs)

-- each mark is right, within as many steps as there are marks
pub record IsMarking (g : Graph) (own marks : List Bool) : Type 0 where
  pub long : length marks ≡ length g
  pub sound : (row : ℕ) → flag marks row ≡ true → marked_within g own (set_count marks) row ≡ true
